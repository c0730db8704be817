-- Laws of what rules leave of a set: taken one after the other they leave what passes each; and where no two are over one action, that is the
-- chain of a definition, in which the first that is over the candidate decides.
-- Assumes nothing.
use Rattle.std.specs.Prelude.{◌≡◌, refl, Bool, true, false, cond, ◌&&◌, ◌||◌, List, [], ◌∷◌, ℕ, ◌-◌, ◌<◌, T}
use Rattle.std.proofs.Math.Path.{sym}
use Rattle.std.proofs.Common.{ap, ◌∙◌}
use Rattle.std.proofs.Math.Bool.{not}
use Rattle.std.specs.Int.Bits.{bit_and}
use Rattle.laws.specs.Bits.{has}
use Rattle.laws.specs.laws.Tests.{and_left, and_right, and_true, or_true, or_false, neither}
use Rattle.laws.specs.laws.Same.{below, below_at}
use Rattle.laws.specs.laws.Bits.{has_collect, collect_lt, keep_same, keep_keep, keep_whole, less_keep}
use Rattle.action.specs.Known.{actions}
use Rattle.action_set.specs.Sets.{SetIn, set_of, keep_of}
use Rattle.moves.specs.inner.Sets.{unless_of}

-- ---- what one rule leaves

module _ (set over : ℕ) (h : SetIn set) where
  pub unless_held : set ≡ unless_of set over true
  unfolding unless_of
  unless_held = sym (keep_whole actions set (λ n. not (has over n) || true) h (λ n l. or_true (not (has over n))))

  pub unless_broken : set - bit_and set over ≡ unless_of set over false
  unfolding unless_of
  unless_broken =
      less_keep actions set over h
      ∙ keep_same actions set (λ n. not (has over n)) (λ n. not (has over n) || false) (λ n l t. sym (or_false (not (has over n))))

-- ---- rules over actions

pub record Rule : Type 0 where
  pub over : ℕ → Bool
  pub holds : Bool

abbrev pub rule : (ℕ → Bool) → Bool → Rule
rule over holds = record { over = over; holds = holds }

-- n passes it
abbrev pub lets : Rule → ℕ → Bool
lets r n = not (r.over n) || r.holds

-- one after the other
abbrev pub leaves : List Rule → ℕ → ℕ
leaves [] set = set
leaves (r ∷ rest) set = leaves rest (unless_of set (set_of r.over) r.holds)

-- n passes each of them
abbrev pub every : List Rule → ℕ → Bool
every [] n = true
every (r ∷ rest) n = lets r n && every rest n

pub unless_lets : (r : Rule) (set : ℕ) → unless_of set (set_of r.over) r.holds ≡ keep_of (lets r) set
unfolding unless_of
unless_lets r set =
    keep_same actions set (λ n. not (has (set_of r.over) n) || r.holds) (lets r)
    (λ n l t. ap (λ (b : Bool). not b || r.holds) (has_collect r.over actions n l))

pub leaves_every : (rules : List Rule) (set : ℕ) → SetIn set → leaves rules set ≡ keep_of (every rules) set
leaves_every [] set h = sym (keep_whole actions set (λ n. true) h (λ m l. refl))
leaves_every (r ∷ rest) set h =
    ap (leaves rest) (unless_lets r set)
    ∙ leaves_every rest (keep_of (lets r) set) (collect_lt (λ n. has set n && lets r n) actions)
    ∙ keep_keep actions set (lets r) (every rest)

-- the first that is over n decides
abbrev pub chain : List Rule → ℕ → Bool
chain [] n = true
chain (r ∷ rest) n = cond (r.over n) r.holds (chain rest n)

-- one of them is over n
abbrev pub ruled : List Rule → ℕ → Bool
ruled [] n = false
ruled (r ∷ rest) n = r.over n || ruled rest n

-- no two are over one action, by a test that computes
abbrev pub alone : Rule → List Rule → Bool
alone r rest = below (λ n. not (r.over n && ruled rest n)) actions

abbrev pub apart : List Rule → Bool
apart [] = true
apart (r ∷ rest) = alone r rest && apart rest

every_none : (rules : List Rule) (n : ℕ) → ruled rules n ≡ false → every rules n ≡ true
every_none [] n e = refl
every_none (r ∷ rest) n e = let parts = neither (r.over n) (ruled rest n) e in rw parts.0 (every_none rest n parts.1)

every_chain : (rules : List Rule) → T (apart rules) → (n : ℕ) → n < actions → every rules n ≡ chain rules n
every_chain [] t n h = refl
every_chain (r ∷ rest) t n h =
    by (r.over n) (ruled rest n) refl
    (below_at (λ n. not (r.over n && ruled rest n)) actions n h (and_left (alone r rest) (apart rest) t))
    (every_chain rest (and_right (alone r rest) (apart rest) t) n h)
  where
    by : (a b : Bool) → ruled rest n ≡ b → T (not (a && b)) → every rest n ≡ chain rest n
        → (not a || r.holds) && every rest n ≡ cond a r.holds (chain rest n)
    by true true e t same = absurd t
    by true false e t same = rw (every_none rest n e) (and_true r.holds)
    by false b e t same = same

pub leaves_chain : (rules : List Rule) (f : ℕ → Bool) → T (apart rules) → ((n : ℕ) → n < actions → chain rules n ≡ f n)
    → (set : ℕ) → SetIn set → leaves rules set ≡ keep_of f set
leaves_chain rules f t e set h = leaves_every rules set h ∙ keep_same actions set (every rules) f (λ n l m. every_chain rules t n l ∙ e n l)
