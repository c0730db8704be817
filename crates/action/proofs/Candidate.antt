-- A word's candidate, the action that holds its key: what `from_name` answers, by how far it came.
-- Assumes nothing.
use Rattle.std.specs.Prelude.{Some, None}
use mathlib.Core.Path.{◌≡◌, sym, ap, subst, ◌∙◌}
use mathlib.Core.Bool.{true, false}
use mathlib.Core.List.{List}
use Prim.Native.Nat.{ℕ, ◌≤◌, ◌<◌}
use native.Mathlib.Omega.{arith}
use lib.Dec.{T, eqb, eqb→eq}
use lib.ListN.{length, get_or}
use Rattle.laws.specs.laws.Tests.{true_false}
use Rattle.laws.specs.Lists.{same}
use Rattle.laws.specs.laws.Same.{same→eq, same_refl, below_at}
use Rattle.action.specs.Table.{action_of}
use Rattle.action.specs.Known.{actions}
use Rattle.action.specs.Names.{name_of, found_of}
use Rattle.action.specs.laws.Names.{name_long, name_short, found_none, own_name}
use Rattle.action.specs.inner.Texts.{shortest, longest, key_of, holder, holders}

abbrev pub candidate_of : List ℕ → ℕ
candidate_of word = get_or (holders 64 0) (key_of word) 0

-- each name's key is held by its own action
own_candidate : (n : ℕ) → n < actions → candidate_of (name_of n) ≡ n
unfolding action_of name_of key_of holder holders
own_candidate n h = eqb→eq _ _ (below_at (λ n. eqb (candidate_of (name_of n)) n) actions n h tt)

module _ (word : List ℕ) where
  pub too_short : length word < shortest → None ≡ found_of word
  too_short h = found_none word (λ j k e. absurd (omega (arith, name_long j k, ap length e)))

  pub too_long : longest < length word → None ≡ found_of word
  too_long h = found_none word (λ j k e. absurd (omega (arith, name_short j k, ap length e)))

  pub no_candidate : {n : ℕ} → n ≡ candidate_of word → actions ≤ n → None ≡ found_of word
  no_candidate e h = found_none word (λ j k i. absurd (omega (arith, ap candidate_of i, own_candidate j k)))

  module _ {n : ℕ} (e : n ≡ candidate_of word) (h : n < actions) where
    pub other_word : same (name_of n) word ≡ false → None ≡ found_of word
    other_word f =
        found_none word
        (λ j k i.
        let m : j ≡ n = sym (own_candidate j k) ∙ ap candidate_of i ∙ sym e in
        true_false (sym (same_refl word) ∙ ap (λ (w : List ℕ). same w word) (sym i) ∙ ap (λ (x : ℕ). same (name_of x) word) m ∙ f))

    pub that_word : same (name_of n) word ≡ true → Some n ≡ found_of word
    that_word t = own_name n h ∙ ap found_of (same→eq (name_of n) word (subst T (sym t) tt))
