-- Laws of names and labels: how long they are, and which action a word finds.
-- Assumes nothing.
use Rattle.std.specs.Prelude.{◌≡◌, refl, Bool, true, false, cond, List, [], ◌∷◌, ◌++◌, ℕ, zero, suc, ◌+◌, ◌≤◌, ◌<◌, T, leb, eqb, length, Option, Some, None}
use Rattle.std.proofs.Common.{sym, ap, subst, ◌∙◌, zero-add, add-zero, suc-add, add-suc, arith, leb→le, eqb→eq, length-append}
use Rattle.laws.specs.Lists.{elem, same}
use Rattle.laws.specs.laws.Same.{same→eq, below_at}
use Rattle.action.specs.Table.{action_of}
use Rattle.action.specs.Known.{actions}
use Rattle.action.specs.Names.{name_of, label_of, quoted_of, macro_of, text_of, found_from, found_of}
use Rattle.action.specs.inner.Texts.{shortest, longest, label_most, text_most}
use Rattle.action.specs.declared.texts.Text.{Text}
use Rattle.action.specs.declared.texts.Text.TheVariants as T

pub name_long : (n : ℕ) → n < actions → shortest ≤ length (name_of n)
unfolding action_of name_of
name_long n h = leb→le _ _ (below_at (λ n. leb shortest (length (name_of n))) actions n h tt)

pub name_short : (n : ℕ) → n < actions → length (name_of n) ≤ longest
unfolding action_of name_of
name_short n h = leb→le _ _ (below_at (λ n. leb (length (name_of n)) longest) actions n h tt)

pub label_short : (n : ℕ) → n < actions → length (label_of n) ≤ label_most
unfolding action_of label_of
label_short n h = leb→le _ _ (below_at (λ n. leb (length (label_of n)) label_most) actions n h tt)

pub macro_length : (n : ℕ) → length (macro_of n) ≡ length (quoted_of (label_of n)) + 13
unfolding macro_of
macro_length n = simp length-append (omega arith)

macro_short : (n : ℕ) → n < actions → length (macro_of n) ≤ text_most
unfolding action_of label_of quoted_of elem macro_of
macro_short n h = leb→le _ _ (below_at (λ n. leb (length (macro_of n)) text_most) actions n h tt)

pub text_short : (which : Text) (n : ℕ) → n < actions → length (text_of which n) ≤ text_most
unfolding text_of
text_short T.Name n h = omega (arith, name_short n h)
text_short T.Label n h = omega (arith, label_short n h)
text_short T.Macro n h = macro_short n h

pub quoted_spaced : (label : List ℕ) → elem label 32 ≡ true → quoted_of label ≡ 34 ∷ (label ++ (34 ∷ []))
unfolding quoted_of
quoted_spaced label t = rw t

pub quoted_plain : (label : List ℕ) → elem label 32 ≡ false → quoted_of label ≡ label
unfolding quoted_of
quoted_plain label f = rw f

-- ---- the search of the definition

-- the word is no name from k on
none_from : (left k : ℕ) (word : List ℕ) → ((j : ℕ) → j < left → same (name_of (k + j)) word ≡ false) → found_from left k word ≡ None
unfolding found_from
none_from zero k word f = refl
none_from (suc left) k word f =
    rw (simp add-zero at (f 0 (omega arith)))
    (none_from left (suc k) word (λ j h. subst (λ (x : ℕ). same (name_of x) word ≡ false) (add-suc k j ∙ sym (suc-add k j)) (f (suc j) (omega arith))))

pub found_none : (word : List ℕ) → ((j : ℕ) → j < actions → name_of j ≡ word → ⊥) → None ≡ found_of word
unfolding found_of
found_none word f = sym (none_from actions 0 word (λ j h. rw zero-add (by (same (name_of j) word) refl h)))
  where
    by : {j : ℕ} (b : Bool) → same (name_of j) word ≡ b → j < actions → b ≡ false
    by {j} true e h = absurd (f j h (same→eq (name_of j) word (subst T (sym e) tt)))
    by {j} false e h = refl

abbrev is_action : Option ℕ → ℕ → Bool
is_action (Some k) n = eqb k n
is_action None n = false

is_action_lem : (f : Option ℕ) (n : ℕ) → T (is_action f n) → Some n ≡ f
is_action_lem (Some k) n t = ap Some (sym (eqb→eq k n t))
is_action_lem None n t = absurd t

-- each name finds its own action
pub own_name : (n : ℕ) → n < actions → Some n ≡ found_of (name_of n)
unfolding action_of name_of found_from found_of
own_name n h = is_action_lem (found_of (name_of n)) n (below_at (λ n. is_action (found_of (name_of n)) n) actions n h tt)

-- what is found is an action
found_below : (left k : ℕ) (word : List ℕ) {n : ℕ} → found_from left k word ≡ Some n → n < k + left
unfolding found_from
found_below zero k word e = let z : ◌≡◌ {A = ℕ} 0 1 = cc in absurd (omega arith)
found_below (suc left) k word {n} e = by (same (name_of k) word) (found_below left (suc k) word) e
  where
    by : (b : Bool) → (found_from left (suc k) word ≡ Some n → n < suc k + left)
        → cond b (Some k) (found_from left (suc k) word) ≡ Some n → n < k + suc left
    by true later e = let m : k ≡ n = cc in omega arith
    by false later e = omega (arith, later e)

pub found_known : (word : List ℕ) {n : ℕ} → found_of word ≡ Some n → n < actions
unfolding found_of
found_known word e = found_below actions 0 word e
