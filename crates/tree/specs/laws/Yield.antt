-- The one of a list to which all others give way, by what each is rated: there is no second where all rates are finite.
-- Assumes nothing.
use Rattle.std.specs.Prelude.{◌≡◌, ℕ, ◌<◌, ◌≤◌, Bool, true, false, cond, ◌&&◌, ◌||◌, T, List, [], ◌∷◌, ◌==◌, nat_le, Float}
use Rattle.std.proofs.Math.Path.{refl}
use Rattle.std.proofs.Common.{sym, ◌∙◌, le_antisymm, arith, leb-true, le-leb, eqb-true, eq-eqb}
use Rattle.std.specs.Float.Ieee.{lt, eq, le}
use Rattle.std.specs.Float.Ieee.Bits.{is_true}
use Rattle.std.specs.Float.Ieee.Scale.{finite}
use Rattle.laws.specs.Lists.{elem}
use Rattle.laws.specs.laws.Tests.{true_false, both, and_both, and_true, or_true}
use Rattle.laws.specs.laws.Order.{lt_not_le}
use Rattle.tree.specs.Tree.{yields, all_yield, best_in}
use Rattle.tree.specs.laws.Node.{holds}

module _ (rate : ℕ → Float) where
  -- ---- of two one gives way

  -- a rate that is no greater
  yields_le : (k j : ℕ) → yields rate k j ≡ true → T (le (rate j) (rate k))
  unfolding le
  yields_le k j e = go (lt (rate j) (rate k)) refl e
    where
      go : (t : Bool) → lt (rate j) (rate k) ≡ t → t || (eq (rate j) (rate k) && nat_le j k) ≡ true → T (t || eq (rate j) (rate k))
      go true q e = tt
      go false q e = holds (both (eq (rate j) (rate k)) _ e).0

  yields_both : (j k : ℕ) → T (finite (rate j)) → T (finite (rate k)) → yields rate k j ≡ true → yields rate j k ≡ true → j ≡ k
  yields_both j k a b h i = go (lt (rate j) (rate k)) refl (lt (rate k) (rate j)) refl h i
    where
      go : (l : Bool) → lt (rate j) (rate k) ≡ l → (g : Bool) → lt (rate k) (rate j) ≡ g → l || (eq (rate j) (rate k) && nat_le j k) ≡ true
          → g || (eq (rate k) (rate j) && nat_le k j) ≡ true → j ≡ k
      go true p g q h i = absurd (lt_not_le (rate j) (rate k) a b (holds p) (yields_le j k (rw q i)))
      go false p true q h i = absurd (lt_not_le (rate k) (rate j) b a (holds q) (yields_le k j (rw p h)))
      go false p false q h i =
          le_antisymm (leb-true j k (both (eq (rate j) (rate k)) _ h).1) (leb-true k j (both (eq (rate k) (rate j)) _ i).1)

  -- not a later record, and no greater rate
  pub yields_before : (j k : ℕ) → j ≤ k → T (le (rate j) (rate k)) → yields rate k j ≡ true
  unfolding le
  yields_before j k h l = rw (le-leb j k h, and_true) (is_true (lt (rate j) (rate k) || eq (rate j) (rate k)) l)

  -- a smaller rate
  pub yields_less : (j k : ℕ) → T (lt (rate j) (rate k)) → yields rate k j ≡ true
  yields_less j k h = rw (is_true (lt (rate j) (rate k)) h)

  -- ---- the one of a list to which all give way

  module _ (k : ℕ) where
    pub all_yield_lem : (js : List ℕ) → ((j : ℕ) → elem js j ≡ true → yields rate k j ≡ true) → all_yield rate k js ≡ true
    unfolding all_yield elem
    all_yield_lem [] each = refl
    all_yield_lem (i ∷ rest) each = and_both (each i (rw (eq-eqb i i refl))) (all_yield_lem rest (λ j e. each j (rw e (or_true (j == i)))))

    yield_each : (js : List ℕ) → all_yield rate k js ≡ true → (j : ℕ) → elem js j ≡ true → yields rate k j ≡ true
    unfolding all_yield elem
    yield_each [] e j is = absurd (true_false (sym is))
    yield_each (i ∷ rest) e j is = let parts = both (yields rate k i) _ e in go (j == i) refl parts.0 is (yield_each rest parts.1 j)
      where
        go : (t : Bool) → (j == i) ≡ t → yields rate k i ≡ true → t || elem rest j ≡ true → (elem rest j ≡ true → yields rate k j ≡ true)
            → yields rate k j ≡ true
        go true q here is later = rw (eqb-true j i q) here
        go false q here is later = later is

  module _ (all : List ℕ) where
    abbrev First : ℕ → Type 0
    First k = all_yield rate k all ≡ true

    pub in_found : (rest : List ℕ) → 0 < best_in rate all rest → (elem rest (best_in rate all rest) ≡ true) × First (best_in rate all rest)
    unfolding best_in elem
    in_found [] some = absurd (omega arith)
    in_found (k ∷ rest) some = go (all_yield rate k all) refl (in_found rest) some
      where
        go : (t : Bool) → all_yield rate k all ≡ t
            → (0 < best_in rate all rest → (elem rest (best_in rate all rest) ≡ true) × First (best_in rate all rest))
            → 0 < cond t k (best_in rate all rest)
            → (cond t k (best_in rate all rest) == k || elem rest (cond t k (best_in rate all rest)) ≡ true) × First (cond t k (best_in rate all rest))
        go true q later some = (rw (eq-eqb k k refl), q)
        go false q later some = let f = later some in (rw f.0 (or_true (best_in rate all rest == k)), f.1)

    in_only : (k : ℕ) → First k → (rest : List ℕ) → elem rest k ≡ true → ((j : ℕ) → elem rest j ≡ true → First j → j ≡ k) → best_in rate all rest ≡ k
    unfolding best_in elem
    in_only k first [] is only = absurd (true_false (sym is))
    in_only k first (i ∷ rest) is only =
        go (all_yield rate i all) refl (k == i) refl is (only i (rw (eq-eqb i i refl))) (λ e. in_only k first rest e (λ j f. only j (rw f (or_true (j == i)))))
      where
        go : (t : Bool) → all_yield rate i all ≡ t → (u : Bool) → (k == i) ≡ u → u || elem rest k ≡ true → (First i → i ≡ k)
            → (elem rest k ≡ true → best_in rate all rest ≡ k)
            → cond t i (best_in rate all rest) ≡ k
        go true q u p is here later = here q
        go false q true p is here later = absurd (true_false (sym first ∙ rw (eqb-true k i p) q))
        go false q false p is here later = later is

    -- ---- THE theorems, where all rates are finite

    module _ (each : (k : ℕ) → elem all k ≡ true → T (finite (rate k))) where
      -- no two are such that all give way to them
      pub one_first : (j k : ℕ) → elem all j ≡ true → elem all k ≡ true → First j → First k → j ≡ k
      one_first j k is too f g = yields_both j k (each j is) (each k too) (yield_each k all g j is) (yield_each j all f k too)

      -- so one to which all give way is the best
      pub first_best : (k : ℕ) → elem all k ≡ true → First k → best_in rate all all ≡ k
      first_best k is first = in_only k first all is (λ j too f. one_first j k too is f first)
