-- Laws of a list's macro time: on a walk over the list, with an action more, and how long it is at most.
-- Assumes nothing.
use Rattle.std.specs.Prelude.{◌≡◌, refl, List, [], ◌∷◌, ◌++◌, ℕ, zero, suc, ◌+◌, ◌*◌, ◌-◌, ◌≤◌, ◌<◌, length, get_or, take, map, sum}
use Rattle.std.proofs.Common.{ap, ◌∙◌, append-nil, arith, add-one, length-append, take-suc}
use Rattle.std.proofs.Math.Seq.{take-length, take-append-add}
use Rattle.std.proofs.lemmas.List.Sums.{sum_by-cons}
use Rattle.action.specs.Table.{attributes_of}
use Rattle.action.specs.Wait.{wait_of}
use Rattle.action.specs.laws.Bounds.{wait_most}
use Rattle.rotation.specs.Seconds.{waits_of, seconds_of, last_wait}

waits_append : (list more : List ℕ) → waits_of (list ++ more) ≡ waits_of list + waits_of more
unfolding waits_of
waits_append [] more = omega arith
waits_append (n ∷ rest) more = omega (arith, waits_append rest more)

pub waits_sum : (list : List ℕ) → sum (map (λ n. wait_of (attributes_of n)) list) ≡ waits_of list
unfolding waits_of
waits_sum [] = refl
waits_sum (n ∷ rest) =
    sum_by-cons (λ x. x) (wait_of (attributes_of n)) (map (λ n. wait_of (attributes_of n)) rest) ∙ ap (λ (k : ℕ). wait_of (attributes_of n) + k) (waits_sum rest)

-- on a walk over the list: of none, of one more than i, and of all but the last
pub waits_none : waits_of [] ≡ 0
unfolding waits_of
waits_none = refl

pub waits_on : (list : List ℕ) (i : ℕ) → i < length list
    → waits_of (take (i + 1) list) ≡ waits_of (take i list) + wait_of (attributes_of (get_or list i 0))
unfolding waits_of
waits_on list i h = rw (add-one i, take-suc list i 0 h) (omega (arith, waits_append (take i list) (get_or list i 0 ∷ [])))

pub waits_end : (list : List ℕ) {i : ℕ} → i ≡ length list - 1 → waits_of (take i list) ≡ seconds_of list
unfolding seconds_of
waits_end list e = ap (λ (k : ℕ). waits_of (take k list)) e

-- the waits of the actions in front, and the time of those behind, of which there is one at least
seconds_apart : (front : List ℕ) (n : ℕ) (rest : List ℕ) → seconds_of (front ++ (n ∷ rest)) ≡ waits_of front + seconds_of (n ∷ rest)
unfolding seconds_of
seconds_apart front n rest =
    let back : List ℕ = n ∷ rest in
    let counted : length (front ++ back) - 1 ≡ length front + (length back - 1) = omega (arith, length-append front back) in
    ap (λ (k : ℕ). waits_of (take k (front ++ back))) counted ∙ ap waits_of (take-append-add front back (length back - 1)) ∙ waits_append front (take (length back - 1) back)

pub seconds_front : (front : List ℕ) (n : ℕ) → seconds_of (front ++ (n ∷ [])) ≡ waits_of front
unfolding waits_of seconds_of
seconds_front front n = omega (arith, seconds_apart front n [])

-- every wait counts but that of the last action
waits_last : (list : List ℕ) → waits_of list ≡ seconds_of list + last_wait list
unfolding waits_of seconds_of last_wait
waits_last [] = refl
waits_last (n ∷ rest) =
    let list : List ℕ = n ∷ rest in
    let whole : take (length rest + 1) list ≡ list = rw (add-one (length rest)) (take-length list) in
    omega (arith, ap waits_of whole, waits_on list (length rest) (omega arith), waits_end list {i = length rest} (omega arith))

-- with one action more, the wait of the former last one counts too
pub seconds_more : (list : List ℕ) (n : ℕ) → seconds_of (list ++ (n ∷ [])) ≡ seconds_of list + last_wait list
unfolding waits_of seconds_of
seconds_more list n = omega (arith, seconds_apart list n [], waits_last list)

-- an action more, at whatever place, never takes time away
pub seconds_grow : (front back : List ℕ) (n : ℕ) → seconds_of (front ++ back) ≤ seconds_of (front ++ (n ∷ back))
seconds_grow front [] n = omega (arith, ap seconds_of (append-nil front), seconds_more front n)
seconds_grow front (next ∷ rest) n = omega (arith, seconds_apart front next rest, seconds_apart front n (next ∷ rest), seconds_apart (n ∷ []) next rest)

pub waits_most : (list : List ℕ) (i : ℕ) → waits_of (take i list) ≤ 3 * i
unfolding waits_of
waits_most list zero = omega arith
waits_most [] (suc i) = omega arith
waits_most (n ∷ rest) (suc i) = omega (arith, wait_most (attributes_of n), waits_most rest i)

-- 3 seconds for each action but the last; the empty list too, since 0 - 1 is 0
pub seconds_most : (list : List ℕ) → seconds_of list ≤ 3 * (length list - 1)
unfolding seconds_of
seconds_most list = waits_most list (length list - 1)
