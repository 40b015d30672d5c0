use Rattle.std.proofs.Common.{rules, ◌≡◌, ◌∷◌, ◌∙◌, ap, sym, subst, List, ℕ, Some, length}
use Rattle.std.specs.List.{All}
use Rattle.std.proofs.lemmas.List.Elements.{All-tail}
use Rattle.std.proofs.lemmas.Result.{err_from_is_err_and}
use Rattle.nsi_primitive.specs.declared.message.Parcel.{Parcel}
use Rattle.nsi_agent.specs.Homes.{home_in}
use Rattle.agent_node.specs.Passing.{IsPrintableCome}
use Rattle.agent_node.specs.Kept.{fault_in}
use Rattle.agent_node.specs.Seated.{Goes}
use Rattle.agent_node.specs.Turns.{takes, takes_all}
use Rattle.agent_node.proofs.Growing.{takes_next, takes_done, takes_all_grow}
use Rattle.agent_node.proofs.Stepping.{goes_on, ends, breaks_off}
use Rattle.agent_node.proofs.seated.Core.take_all.Goals as goal

pub loop-from-preserved : goal.loop-from-preserved
loop-from-preserved c =
    let l = c.loop-from in
    let x : ℕ × Parcel = (c.in-Some.from, c.in-Some.parcel) in
    let rest = c.next.new.self.rest.items in
    let e : l.from-iterator.rest.items ≡ x ∷ rest = search rules in
    record {
      way =
          goes_on (λ h s. takes_all h c.args.parcels.items s) (λ h s. takes_all h l.from-iterator.rest.items s) (λ h s. takes h x.0 x.1 s) (λ h s. takes_all h rest s) c.args.room.now l.room c.take.new.room
          c.args.self.now l.self c.take.new.self
          (λ routes are.
          let h = home_in l.self.network routes l.self.seat.number in
          takes_next h x rest l.self.seat ∙ sym (ap (λ (xs : List (ℕ × Parcel)). takes_all h xs l.self.seat) e))
          l.invariant.way c.in_ok-take.ensures.goes;
      printable = All-tail IsPrintableCome x rest (subst (λ (xs : List (ℕ × Parcel)). All IsPrintableCome xs) e l.invariant.printable);
    }

pub returns-in_err-take : goal.returns-in_err-take
returns-in_err-take c =
    let l = c.loop-from in
    let x : ℕ × Parcel = (c.in-Some.from, c.in-Some.parcel) in
    let rest = c.next.new.self.rest.items in
    let e : l.from-iterator.rest.items ≡ x ∷ rest = search rules in
    let p = err_from_is_err_and c.from_residual.result c.from_residual.ensures.1 in
    record {
      goes =
          subst (Goes (λ h s. takes_all h c.args.parcels.items s) c.args.room.now c.take.new.room c.args.self.now c.take.new.self) (sym (ap fault_in p.1 ∙ ap Some p.2))
          (breaks_off (λ h s. takes_all h c.args.parcels.items s) (λ h s. takes_all h l.from-iterator.rest.items s) (λ h s. takes h x.0 x.1 s) (λ h s. takes_all h rest s) c.args.room.now l.room c.take.new.room
          c.args.self.now l.self c.take.new.self c.in_err-take.field-0.0
          (λ routes are.
          let h = home_in l.self.network routes l.self.seat.number in
          takes_next h x rest l.self.seat ∙ sym (ap (λ (xs : List (ℕ × Parcel)). takes_all h xs l.self.seat) e))
          (λ h s. takes_all_grow h rest s) l.invariant.way c.in_err-take.ensures.goes);
    }

pub returns : goal.returns
returns c =
    let l = c.loop-from in
    let e : length l.from-iterator.rest.items ≡ 0 = search rules in
    record {
      goes =
          ends (λ h s. takes_all h c.args.parcels.items s) (λ h s. takes_all h l.from-iterator.rest.items s) c.args.room.now l.room c.args.self.now l.self
          (λ routes are. takes_done (home_in l.self.network routes l.self.seat.number) l.from-iterator.rest.items l.self.seat e)
          l.invariant.way;
    }
