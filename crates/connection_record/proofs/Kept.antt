-- What a record in order owes is under a correlation that it has.
use Rattle.std.proofs.Common.{ℕ, ◌+◌, ◌≡◌, ◌≤◌, true, Some, ◌⊎◌, inl, inr, arith}
use Rattle.std.specs.Prelude.{is_some}
use Rattle.nsi_primitive.specs.declared.state.Lsm.{Lsm}
use Rattle.nsi_primitive.specs.declared.state.Psm.{Psm}
use Rattle.nsi_primitive.specs.declared.state.Rsm.{Rsm}
use Rattle.connection_record.specs.declared.record.Record.{Record}
use Rattle.connection_record.specs.Moves.{is_working}
use Rattle.connection_record.specs.Order.{is_pending, IsInOrder}
use Rattle.connection_record.specs.Speaking.{owed_reserve, owed_provision, owed_life, owed}
use Rattle.connection_record.specs.Applied.{is_provisioning, is_terminating}

reserve_kept : (k : Rsm) (c n : ℕ) (r : Record) → is_some r.reserve_request ≡ is_working k → (is_pending k ≡ true → is_some r.attempt ≡ true) → 1 ≤ owed_reserve k c n r →
    (r.reserve_request ≡ Some c) ⊎ (r.attempt ≡ Some c)
unfolding owed_reserve is_working is_pending
reserve_kept k c n r e f o = grind (arith, e, f, o)

provision_kept : (k : Psm) (c n : ℕ) (r : Record) → is_some r.provision_request ≡ is_provisioning k → 1 ≤ owed_provision k c n r → r.provision_request ≡ Some c
unfolding owed_provision is_provisioning
provision_kept k c n r e o = grind (arith, e, o)

life_kept : (k : Lsm) (c n : ℕ) (r : Record) → is_some r.lifecycle_request ≡ is_terminating k → 1 ≤ owed_life k c n r → r.lifecycle_request ≡ Some c
unfolding owed_life is_terminating
life_kept k c n r e o = grind (arith, e, o)

some_part : (a b c : ℕ) → 1 ≤ a + (b + c) → (1 ≤ a) ⊎ (1 ≤ b) ⊎ (1 ≤ c)
some_part a b c h = grind arith

pub owed_kept : (c n : ℕ) (r : Record) → IsInOrder r → 1 ≤ owed c n r →
    (r.reserve_request ≡ Some c) ⊎ (r.attempt ≡ Some c) ⊎ (r.provision_request ≡ Some c) ⊎ (r.lifecycle_request ≡ Some c)
unfolding owed
owed_kept c n r h o = by_part (some_part (owed_reserve r.rsm c n r) (owed_provision r.psm c n r) (owed_life r.lsm c n r) o)
  where
    of_reserve : (r.reserve_request ≡ Some c) ⊎ (r.attempt ≡ Some c) → (r.reserve_request ≡ Some c) ⊎ (r.attempt ≡ Some c) ⊎ (r.provision_request ≡ Some c) ⊎ (r.lifecycle_request ≡ Some c)
    of_reserve (inl e) = inl e
    of_reserve (inr e) = inr (inl e)

    by_part : (1 ≤ owed_reserve r.rsm c n r) ⊎ (1 ≤ owed_provision r.psm c n r) ⊎ (1 ≤ owed_life r.lsm c n r) →
        (r.reserve_request ≡ Some c) ⊎ (r.attempt ≡ Some c) ⊎ (r.provision_request ≡ Some c) ⊎ (r.lifecycle_request ≡ Some c)
    by_part (inl p) = of_reserve (reserve_kept r.rsm c n r h.reserve_request h.attempt p)
    by_part (inr (inl p)) = inr (inr (inl (provision_kept r.psm c n r h.provision_request p)))
    by_part (inr (inr p)) = inr (inr (inr (life_kept r.lsm c n r h.lifecycle_request p)))
