-- `context_line::fields::from_numbers` meets its contract: the levels are tested here, and for the others stand numbers of a u32.
-- Assumes nothing.
use Rattle.std.proofs.Common.{◌≡◌, ◌≤◌, length, ℕ, List, [], get_or, subst, Ok, rules, leb-true}
use Rattle.std.specs.Prelude.{leb}
use Rattle.refusal.specs.Judge.{Test, Checked, pass, checked_of, Says, answering}
use Rattle.refusal.specs.Limits.{limit_test}
use Rattle.refusal.specs.laws.Judge.{alone, shown}
use Rattle.context_line.specs.Shape.{fields}
use Rattle.context_line.specs.Fields.{word_most, context_of, number_tests}
use Rattle.context_line.specs.laws.Fields.{in_order}
use Rattle.context_line.specs.laws.Read.{words_read}
use Rattle.context_line.proofs.fields.from_numbers.Goals as goal

-- a level that passed its test
level : (values : List ℕ) (k : ℕ) {checked : Checked} → checked ≡ checked_of (limit_test k (leb (get_or values k 0) word_most)) → checked ≡ pass
    → get_or values k 0 ≤ word_most
level values k e p =
    let t : Test = limit_test k (leb (get_or values k 0) word_most) in
    leb-true _ word_most (shown t [] (alone t e) p).0

pub returns : goal.returns
returns c =
    let count : length c.args.values.now ≡ fields = search rules in
    let player : get_or c.args.values.now 0 0 ≤ word_most = level c.args.values.now 0 c.within.ensures c.in_ok-within.was in
    let recipe : get_or c.args.values.now 1 0 ≤ word_most = level c.args.values.now 1 c.within-2.ensures c.in_ok-within-2.was in
    words_read c.args.values.now count player recipe
    (subst (λ (values : List ℕ). Says answering (number_tests values) (Ok (context_of values)) c.from_fields.result)
    (rw (
      c.word.ensures,
      c.word-2.ensures,
      c.word-3.ensures,
      c.word-4.ensures,
      c.word-5.ensures,
      c.word-6.ensures,
      c.word-7.ensures,
      c.word-8.ensures,
      c.word-9.ensures,
      c.word-10.ensures,
      c.word-11.ensures,
      c.word-12.ensures,
      c.word-13.ensures,
      c.word-14.ensures,
      c.word-15.ensures,
    )
    (in_order c.args.values.now count))
    c.from_fields.ensures)
