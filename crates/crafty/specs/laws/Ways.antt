-- The ways through an entry as its code takes them with `?`: the first of its tests refuse, and that is what it answers, or they let it on.
-- Assumes nothing.
use Rattle.std.specs.Prelude.{◌≡◌, List, ◌++◌, ℕ, Result, Err}
use Rattle.std.specs.Result.{IsErr, IsErrAnd}
use Rattle.std.proofs.Common.{refl}
use Rattle.std.proofs.lemmas.Result.{err_from_is_err_and}
use Rattle.refusal.specs.declared.Refusal.{Refusal}
use Rattle.refusal.specs.Judge.{Test, pass, checks_of, Says, Writes, answering}
use Rattle.refusal.specs.laws.Judge.{stopped_by_lem, onward_by, stopped_room_by, onward_room_by}

module _ {T : Type 0} {answer r : Result T Refusal} (tests rest : List Test) where
  pub refused_by : {x : Refusal} → Err x ≡ checks_of tests → IsErr r × IsErrAnd r (λ y. y ≡ x) → Says answering (tests ++ rest) answer r
  refused_by f h =
      let e = err_from_is_err_and r h.1 in
      rw (e.1, e.2) (stopped_by_lem tests rest f refl)

  pub passed_by : pass ≡ checks_of tests → Says answering rest answer r → Says answering (tests ++ rest) answer r
  passed_by p s = onward_by tests rest p refl s

  pub refused_room_by : {out written : List ℕ} {x : Refusal} → Err x ≡ checks_of tests → IsErr r × IsErrAnd r (λ y. y ≡ x)
      → Writes answering (tests ++ rest) answer out written r out
  refused_room_by f h =
      let e = err_from_is_err_and r h.1 in
      rw (e.1, e.2) (stopped_room_by tests rest f refl refl)

  pub passed_room_by : {out written after : List ℕ} → pass ≡ checks_of tests → Writes answering rest answer out written r after
      → Writes answering (tests ++ rest) answer out written r after
  passed_room_by p w = onward_room_by tests rest p refl w
