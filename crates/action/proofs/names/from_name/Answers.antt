-- `action::names::from_name` meets its contract: the word's key has one candidate, and the word is its name or none.
-- Assumes nothing.
use mathlib.Core.Path.{◌≡◌, sym, ap, ◌∙◌}
use Prim.Native.Nat.{ℕ}
use mathlib.Core.List.{List}
use mathlib.Core.Bool.{Bool}
use lib.Dec.{eqb}
use lib.Pointwise.{pointwise}
use Rattle.laws.specs.Lists.{same}
use Rattle.action.proofs.Equal.{each_is_same}
use lib.ListN.{get_or}
use Rattle.action.specs.Table.{action_of}
use Rattle.action.specs.Names.{name_of}
use Rattle.action.specs.inner.Texts.{key_of, holder, holders}
use Rattle.action.proofs.Candidate.{candidate_of, too_short, too_long, no_candidate, other_word, that_word}
use Rattle.action.proofs.names.from_name.Goals as goal
use Rattle.action.proofs.names.from_name.Goals.{After-key}
use Rattle.action.proofs.names.from_name.Goals.{then-word-lt-SHORTEST-via-then-word-lt-SHORTEST, then-word-lt-SHORTEST-via-else-word-lt-SHORTEST+then-word-gt-LONGEST, else-n-lt-ACTIONS-via-else-n-lt-ACTIONS, else-n-lt-ACTIONS-via-then-n-lt-ACTIONS+else-eq}

-- what is read at the key is the candidate
read : (c : After-key) → get_or (holders 64 0) c.key.result 0 ≡ candidate_of c.args.word.now
read c = ap (λ (k : ℕ). get_or (holders 64 0) k 0) c.key.ensures.0

-- the library's comparison with a name
named : {b : Bool} (word : List ℕ) {name text : List ℕ} → b ≡ pointwise eqb word name → name ≡ text → same text word ≡ b
named word e is = rw (sym is) (sym (e ∙ each_is_same word _))

pub returns-then-word-lt-SHORTEST : goal.returns-then-word-lt-SHORTEST
unfolding action_of name_of key_of holder holders
returns-then-word-lt-SHORTEST c =
    elim c.then-word-lt-SHORTEST.branch [
      | then-word-lt-SHORTEST-via-then-word-lt-SHORTEST w ↦ too_short _ w.if-word-lt-SHORTEST.true
      | then-word-lt-SHORTEST-via-else-word-lt-SHORTEST+then-word-gt-LONGEST w ↦ too_long _ w.if-word-gt-LONGEST.true
    ]

pub returns-then-eq : goal.returns-then-eq
unfolding action_of name_of key_of holder holders
returns-then-eq c = that_word _ (read (goal.at.returns-then-eq c).After-key) c.if-n-lt-ACTIONS.true (named _ c.eq.ensures c.name_of.ensures ∙ c.if-eq.true)

pub returns : goal.returns
unfolding action_of name_of key_of holder holders
returns c =
    elim c.else-n-lt-ACTIONS.branch [
      | else-n-lt-ACTIONS-via-else-n-lt-ACTIONS w ↦ no_candidate _ (read (goal.at.returns c).After-key) w.if-n-lt-ACTIONS.false
      | else-n-lt-ACTIONS-via-then-n-lt-ACTIONS+else-eq w ↦
          other_word _ (read (goal.at.returns c).After-key) w.if-n-lt-ACTIONS.true (named _ w.eq.ensures w.name_of.ensures ∙ w.if-eq.false)
    ]
