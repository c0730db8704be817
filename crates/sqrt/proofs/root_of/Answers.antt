-- `sqrt::root_of` meets its contract: the shift loses no digit.
-- Assumes nothing.
use mathlib.Core.Path.{◌≡◌, ap, ◌∙◌}
use Prim.Native.Nat.{ℕ, ◌*◌, ◌%◌, ◌^◌, ◌≤◌, ◌<◌}
use native.Mathlib.Nat.{mod-eq_of_lt}
use native.Mathlib.Omega.{arith}
use lib.Count.{leading_le}
use Rattle.sqrt.specs.Sqrt.{digits_end, shift, root_near, root_of}
use Rattle.sqrt.specs.laws.Scaled.{scaled_lt, shift_is}
use Rattle.sqrt.proofs.root_of.Goals as goal
use Rattle.sqrt.proofs.root_of.Goals.{After-root_near-p, After-shift_of-s, Start}

whole : (m k s : ℕ) → 0 < m → m < digits_end → s ≡ shift m k → m * 2 ^ s % 2 ^ 64 ≡ m * 2 ^ shift m k
whole m k s p h e =
    let l = scaled_lt m k p h in
    ap (λ (z : ℕ). m * 2 ^ z % 2 ^ 64) e ∙ mod-eq_of_lt (omega arith)

zeros_le : (c : Start) → c.args.zeros ≤ 32
zeros_le c = rw c.requires.before (leading_le 32 c.args.m)

shifted : (c : After-shift_of-s) → c.shift_of-s.result ≡ shift c.args.m c.args.k
shifted c = c.shift_of-s.ensures.0 ∙ shift_is _ _ _ c.requires.before

-- what the answer is put together from is small
module _ (c : After-root_near-p) where
  k_lt : c.args.k < 255
  k_lt = c.requires.exponent

  s_le : c.shift_of-s.result ≤ 48
  s_le = c.shift_of-s.ensures.1

  p_le : c.root_near-p.result ≤ digits_end
  p_le = c.root_near-p.ensures.1

pub root_near-p-requires : goal.root_near-p-requires
root_near-p-requires c =
    let d = c.requires in
    (rw (whole _ _ _ d.some d.few (shifted c)) (scaled_lt _ _ d.some d.few), d.guessed)

pub returns : goal.returns
unfolding root_of
returns c =
    let a = c.before.before in
    let e = shifted c.before in
    let p : c.root_near-p.result ≡ root_near (a.args.m * 2 ^ shift a.args.m a.args.k) =
    c.root_near-p.ensures.0 ∙ ap root_near (whole _ _ _ a.requires.some a.requires.few e) in
    (simp (p, e), omega (arith, k_lt c, s_le c, p_le c))
