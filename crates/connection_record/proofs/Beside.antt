-- What a request leaves alone.
use Rattle.std.proofs.Common.{ℕ, ◌≡◌, ◌∙◌, Bool, true, false, List, [], ◌∷◌, Option, Some, None, ◌==◌, ◌&&◌, if◌then◌else◌, refl, ap, arith}
use Rattle.nsi_primitive.specs.declared.kind.Kind.{Kind}
use Rattle.nsi_primitive.specs.declared.state.Lsm.{Lsm}
use Rattle.nsi_primitive.specs.declared.state.Psm.{Psm}
use Rattle.nsi_primitive.specs.declared.state.Side.{Side}
use Rattle.nsi_primitive.specs.declared.message.Body.{Body}
use Rattle.nsi_primitive.specs.Kinds.{kind_number}
use Rattle.provision_machine.specs.Table.{step as provision_step}
use Rattle.lifecycle_machine.specs.Table.{step as lifecycle_step}
use Rattle.connection_record.specs.declared.record.Record.{Record}
use Rattle.connection_record.specs.declared.life.LifecycleMove.{LifecycleMove}
use Rattle.connection_record.specs.declared.moves.Reply.{Reply}
use Rattle.connection_record.specs.declared.provisioning.ProvisionMove.{ProvisionMove}
use Rattle.connection_record.specs.declared.apply.Move.{Move}
use Rattle.connection_record.specs.Courses.{answering, is_reservation_request, IsBeside}
use Rattle.connection_record.specs.Lives.{provision_event, lifecycle_event, provisions, lives}
use Rattle.connection_record.specs.Replies.{Moved}
use Rattle.connection_record.specs.Speaking.{one, tally, number_of, is_asking, is_noting, is_answering, answers_as, owed_provision, owed_life, owed, provision_begins, lifecycle_begins, Speaks}
use Rattle.connection_record.specs.Ids.{is_id}
use Rattle.connection_record.specs.Applied.{moves, moves_if, requested}
use Rattle.connection_record.proofs.Acts.{same_self}
use Rattle.connection_record.proofs.Frames.{provisions_core, lives_core}
use Rattle.connection_record.proofs.Saying.{provisions_owed, provisions_others, lives_owed, lives_others}

-- neither of the machines answers under another correlation
provisions_quiet : (side : Side) (k : Psm) (move : ProvisionMove) (now : ℕ) (r : Record) (c : ℕ) → r.psm ≡ k → is_id (provision_begins move) c ≡ false →
    ((n : ℕ) → owed_provision k c n r ≡ 0) → answering c (provisions side k move now r).out ≡ []
unfolding provisions provision_step provision_event owed_provision answering is_answering is_asking is_noting kind_number
provisions_quiet side k move now r c e h o =
    let a = o (kind_number Kind.ProvisionConfirmed) in
    let b = o (kind_number Kind.ReleaseConfirmed) in
    let d = o (kind_number Kind.Error) in
    grind (arith, a, b, d, h)

lives_quiet : (k : Lsm) (move : LifecycleMove) (now : ℕ) (r : Record) (c : ℕ) → r.lsm ≡ k → is_id (lifecycle_begins move) c ≡ false →
    ((n : ℕ) → owed_life k c n r ≡ 0) → answering c (lives k move now r).out ≡ []
unfolding lives lifecycle_step lifecycle_event owed_life answering is_answering is_asking is_noting kind_number
lives_quiet k move now r c e h o = let a = o (kind_number Kind.TerminateConfirmed) in grind (arith, a, h)

-- a move of another machine than that of the reservation
abbrev IsOther : ℕ → Option Move → Type 0
IsOther c None = Unit {0}
IsOther c (Some (Move.Provision m)) = provision_begins m ≡ Some c
IsOther c (Some (Move.Lifecycle m)) = lifecycle_begins m ≡ Some c
IsOther c (Some (Move.Reservation m)) = ⊥
IsOther c (Some (Move.Close agent)) = ⊥

nothing_beside : (c : ℕ) (r : Record) → IsBeside c r (record { rec = r; out = [] })
unfolding answering
nothing_beside c r = record { same = same_self r; says = λ b e a. refl; alone = λ b e a. a }

provision_beside : (side : Side) (move : ProvisionMove) (c now : ℕ) (r : Record) → provision_begins move ≡ Some c → IsBeside c r (provisions side r.psm move now r)
provision_beside side move c now r q =
    record {
      same = provisions_core side r.psm move now r;
      says = λ b e a. provisions_quiet side r.psm move now r b refl (ap (λ w. is_id w b) q ∙ e) a.provision;
      alone = λ b e a. record {
        provision = λ n. omega (arith, provisions_owed side r.psm move now r b n refl, a.provision n, ap (λ o. one (is_id o b)) q, ap one e);
        life = λ n. (provisions_others side r.psm move now r b n).1 ∙ a.life n;
      };
    }

lifecycle_beside : (move : LifecycleMove) (c now : ℕ) (r : Record) → lifecycle_begins move ≡ Some c → IsBeside c r (lives r.lsm move now r)
lifecycle_beside move c now r q =
    record {
      same = lives_core r.lsm move now r;
      says = λ b e a. lives_quiet r.lsm move now r b refl (ap (λ w. is_id w b) q ∙ e) a.life;
      alone = λ b e a. record {
        provision = λ n. (lives_others r.lsm move now r b n).1 ∙ a.provision n;
        life = λ n. omega (arith, lives_owed r.lsm move now r b n refl, a.life n, ap (λ o. one (is_id o b)) q, ap one e);
      };
    }

other_beside : (side : Side) (o : Option Move) (c now : ℕ) (r : Record) → IsOther c o → IsBeside c r (moves_if side o now r)
unfolding moves
other_beside side None c now r h = nothing_beside c r
other_beside side (Some (Move.Provision move)) c now r h = provision_beside side move c now r h
other_beside side (Some (Move.Lifecycle move)) c now r h = lifecycle_beside move c now r h
other_beside side (Some (Move.Reservation move)) c now r h = absurd h
other_beside side (Some (Move.Close agent)) c now r h = absurd h

requested_other : (now : ℕ) (body : Body) (c : ℕ) (r : Record) → is_reservation_request body ≡ false → IsOther c (requested now body c r)
unfolding requested is_reservation_request
requested_other now body c r e = grind (arith, e)

pub request_beside : (side : Side) (body : Body) (c now : ℕ) (r : Record) → is_reservation_request body ≡ false → IsBeside c r (moves_if side (requested now body c r) now r)
request_beside side body c now r e = other_beside side (requested now body c r) c now r (requested_other now body c r e)

---- What owes nothing says nothing

counted : (c : ℕ) (y : Reply) → (is_answering y.body && (c == y.correlation)) ≡ true → answers_as c (number_of y.body) y ≡ true
counted c y e = grind (arith, e)

uncounted : (c : ℕ) (out : List Reply) → ((n : ℕ) → tally (answers_as c n) out ≡ 0) → answering c out ≡ []
unfolding answering tally
uncounted c [] h = refl
uncounted c (y ∷ ys) h = by_test (is_answering y.body && (c == y.correlation)) refl (uncounted c ys (λ n. omega (arith, h n)))
  where
    by_test : (b : Bool) → (is_answering y.body && (c == y.correlation)) ≡ b → answering c ys ≡ [] → (if b then y.body ∷ answering c ys else answering c ys) ≡ []
    by_test true e rest = absurd (omega (arith, h (number_of y.body), ap one (counted c y e)))
    by_test false e rest = rest

pub silent : (begun : Option ℕ) (drawn : ℕ → ℕ) (r : Record) (x : Moved) (c : ℕ) → Speaks begun drawn r x → is_id begun c ≡ false → ((n : ℕ) → owed c n r ≡ 0) → answering c x.out ≡ []
silent begun drawn r x c s e o = uncounted c x.out (λ n. omega (arith, s.answers c n, o n, ap one e))

pub still_silent : (begun : Option ℕ) (drawn : ℕ → ℕ) (r : Record) (x : Moved) (c n : ℕ) → Speaks begun drawn r x → is_id begun c ≡ false → owed c n r ≡ 0 → owed c n x.rec ≡ 0
still_silent begun drawn r x c n s e o = omega (arith, s.answers c n, o, ap one e)
