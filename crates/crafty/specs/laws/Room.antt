-- Laws of text in lent room: an equal text, and a room that is long enough.
-- Assumes nothing.
use Rattle.std.specs.Prelude.{◌≡◌, List, ℕ, ◌≤◌, length, Result, Ok}
use Rattle.std.proofs.Common.{subst, ◌∙◌, le-leb}
use Rattle.refusal.specs.declared.Refusal.{Refusal}
use Rattle.refusal.specs.Judge.{judged}
use Rattle.crafty.specs.Room.{Fits}

-- the same of an equal text
pub fits_as : {text u out after : List ℕ} {r : Result ℕ Refusal} → text ≡ u → Fits text out r after → Fits u out r after
fits_as {text} {u} {out} {after} {r} e f = subst (λ (t : List ℕ). Fits t out r after) e f

-- a room that is long enough is never refused
pub fits_length : (text : List ℕ) {out after : List ℕ} {r : Result ℕ Refusal} → length text ≤ length out → Fits text out r after → r ≡ Ok (length text)
unfolding judged
fits_length text {out} h f = f.says.same ∙ rw (le-leb (length text) (length out) h)
