-- What the writer of a list as text wrote is read back: what rests on the order of the writer's tests.
-- Assumes nothing.
use Rattle.std.specs.Prelude.{◌≡◌, List, ℕ, ◌≤◌, length, take, Result, Ok}
use Rattle.std.proofs.Common.{sym, subst, zero-add}
use Rattle.refusal.specs.Judge.{size_most}
use Rattle.refusal.specs.laws.Judge.{one_outcome}
use Rattle.refusal.specs.declared.Refusal.{Refusal}
use Rattle.text.specs.Over.{over, Put}
use Rattle.text.specs.laws.Over.{take_put}
use Rattle.action.specs.Known.{known_front}
use Rattle.rotation.specs.Lines.{list_text_of}
use Rattle.rotation.specs.laws.Round.{round}
use Rattle.crafty.specs.Room.{Fits}
use Rattle.crafty.specs.Lists.{ReadsList, WritesList}
use Rattle.crafty.specs.laws.Lists.{fits, written, known_words}

-- ---- the round trip, over what the two entries answer

-- for every list of known actions that is short enough, and every room that is long enough: the writer writes its text,
-- and from the bytes written the reader reads the list
pub written_read : (list out : List ℕ) {r : Result ℕ Refusal} {after : List ℕ} (room : List ℕ) {s : Result ℕ Refusal} {later : List ℕ}
    → length list ≤ size_most → length list ≤ known_front list → length (list_text_of list) ≤ length out → length list ≤ length room
    → WritesList list out r after → ReadsList (take (length (list_text_of list)) after) room s later
    → (r ≡ Ok (length (list_text_of list))) × (s ≡ Ok (length list)) × (later ≡ over room 0 list)
written_read list out {r} {after} room {s} {later} size known enough place w q =
    let o = one_outcome w (written list out size known enough) in
    let put : Put out 0 (list_text_of list) (length (list_text_of list)) after = record { next = sym (zero-add _); same = o.1 } in
    let text : take (length (list_text_of list)) after ≡ list_text_of list = take_put put enough in
    let back = round list known in
    let read : ReadsList (list_text_of list) room (Ok (length list)) (over room 0 list) =
    known_words (list_text_of list) back.1 (subst (λ (l : List ℕ). Fits l room (Ok (length list)) (over room 0 list)) (sym back.0) (fits list room place))
    in
    let p = one_outcome (subst (λ (t : List ℕ). ReadsList t room s later) text q) read in
    (o.0, p.0, p.1)
