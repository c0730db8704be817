-- `step::durability::Durability::mended_by` meets its contract: the bytes that it reads are the numbers, and its answer the least of two.
-- Assumes nothing.
use Rattle.std.proofs.Common.{◌≡◌, ◌∙◌, rules, ℕ, ℤ, pos, ◌+ℤ◌, w8, to_z, of_z}
use Rattle.std.specs.Int.{int_min}
use Rattle.craft_state.specs.laws.Inside.{durability_read}
use Rattle.step.specs.Durability.{mended_of}
use Rattle.step.specs.laws.Durability.{mend_fits}
use mir.ValLaws.{to_z-of_z}
use Rattle.step.proofs.durability.Durability.mended_by.Goals as goal

mended_least : (d : ℤ) (by : ℕ) (most : ℤ) → int_min (d +ℤ pos by) most ≡ mended_of d by most
mended_least d by most = search rules

pub returns : goal.returns
returns c =
    let e = durability_read c.args.self.inside in
    let up = mend_fits c.args.self.now c.args.by c.args.self.most c.args.self.inside c.requires in
    let small : to_z w8 c.args.by ≡ pos c.args.by = search rules in
    let low : to_z w8 (of_z w8 c.min.result) ≡ c.min.result = search rules in
    low ∙ (simp (e.0, e.1, small, to_z-of_z w8 _ up) at c.min.ensures.value) ∙ mended_least c.args.self.now c.args.by c.args.self.most
