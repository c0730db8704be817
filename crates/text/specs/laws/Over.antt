-- Laws of texts stored in lent room.
-- Assumes nothing.
use Rattle.std.specs.Prelude.{◌≡◌, refl, List, [], ◌∷◌, ◌++◌, ℕ, suc, ◌+◌, ◌≤◌, ◌<◌, length, set, take, drop, get_or}
use Rattle.std.proofs.Common.{ap, ◌∙◌, sym, subst, zero-add, add-zero, suc-add, add-suc, add-one, arith, drop_of_length-le, length-append, drop-cons, length-take-le}
use Rattle.std.proofs.lemmas.List.Edits.{sets, sets-eq}
use Rattle.std.proofs.Math.Seq.{length-sets, take-append_seam}
use Rattle.text.specs.Over.{over, Put}

-- ---- the room after a store

-- where there is room, that is `text` in place of what stood there, and no byte before or after it is another
pub over_is : (text out : List ℕ) (at : ℕ) → at + length text ≤ length out → over out at text ≡ take at out ++ text ++ drop (at + length text) out
unfolding over
over_is text out at h = sets-eq text out at h

pub length_over : (out : List ℕ) (at : ℕ) (text : List ℕ) → length (over out at text) ≡ length out
unfolding over
length_over out at text = length-sets out at text

pub over_none : (out : List ℕ) (at : ℕ) → over out at [] ≡ out
unfolding over
over_none out at = refl

-- one byte, and then the rest
pub over_step : (out : List ℕ) (at b : ℕ) (rest : List ℕ) → over out at (b ∷ rest) ≡ over (set out at b) (at + 1) rest
unfolding over
over_step out at b rest = rw (add-one at)

-- THE law of appends: one text after another is both at once
pub over_more : (a b out : List ℕ) (at : ℕ) → over (over out at a) (at + length a) b ≡ over out at (a ++ b)
unfolding over
over_more [] b out at = rw add-zero
over_more (x ∷ a) b out at =
    ap (λ (k : ℕ). sets (sets out at (x ∷ a)) k b) (add-suc at (length a) ∙ sym (suc-add at (length a)))
    ∙ over_more a b (set out at x) (suc at)

-- the text from byte j on is its byte j, and then the text from byte j + 1 on
pub over_next : (text out : List ℕ) (at j : ℕ) → j < length text
    → over out (at + j) (drop j text) ≡ over (set out (at + j) (get_or text j 0)) (at + (j + 1)) (drop (j + 1) text)
unfolding over
over_next text out at j h = rw (drop-cons text j 0 h, add-one j, add-suc at j)

-- past the text's end nothing is left to store
pub over_end : (text out : List ℕ) (at : ℕ) {j : ℕ} → length text ≤ j → out ≡ over out (at + j) (drop j text)
unfolding over
over_end text out at h = rw (drop_of_length-le text h)

-- ---- appends

-- an append of nothing
pub put_none : (out : List ℕ) (at : ℕ) {text : List ℕ} → text ≡ [] → Put out at text at out
unfolding over
put_none out at e = record { next = rw (e, add-zero); same = rw e }

-- an append of one byte
pub put_one : (out : List ℕ) (at b : ℕ) → Put out at (b ∷ []) (at + 1) (set out at b)
unfolding over
put_one out at b = record { next = refl; same = refl }

-- one append after another is the append of both
pub then : {out a m b after : List ℕ} {at r s : ℕ} → Put out at a r m → Put m r b s after → Put out at (a ++ b) s after
then {out} {a} {m} {b} {after} {at} p q =
    record {
      next = omega (arith, p.next, q.next, length-append a b);
      same = q.same ∙ rw (p.same, p.next) (over_more a b out at);
    }

-- the same append of an equal text
pub put_as : {text u out : List ℕ} {at r : ℕ} {after : List ℕ} → text ≡ u → Put out at text r after → Put out at u r after
put_as {text} {u} {out} {at} {r} {after} e p = subst (λ (t : List ℕ). Put out at t r after) e p

-- the text can be read back from where it was put
pub take_put : {text out : List ℕ} {r : ℕ} {after : List ℕ} → Put out 0 text r after → length text ≤ length out → take r after ≡ text
take_put {text} {out} p h =
    let e : _ ≡ length text = p.next ∙ zero-add _ in
    rw (e, p.same) (ap (take (length text)) (over_is text out 0 (omega arith)) ∙ take-append_seam text _)

-- a text rendered into a room of its own, and lent from there
pub record Rendered (text : List ℕ) (k : ℕ) (room : List ℕ) : Type 0 where
  pub same : take k room ≡ text
  pub within : k ≤ length room
  pub count : k ≡ length (take k room)

pub rendered : {text out : List ℕ} {k : ℕ} {room : List ℕ} → Put out 0 text k room → length text ≤ length out → Rendered text k room
rendered {text} {out} {k} {room} p h =
    let within : k ≤ length room = omega (arith, p.next, ap length p.same ∙ length_over out 0 text) in
    record { same = take_put p h; within = within; count = sym (length-take-le k room within) }
