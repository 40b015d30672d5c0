use Rattle.std.proofs.Common.{rules, ◌≡◌, [], ◌∷◌, ◌∙◌, ap, sym, List, Err}
use Rattle.nsi_primitive.specs.declared.message.Parcel.{Parcel}
use Rattle.agent_link.specs.Link.{OutHalf, pushed, handed_back}
use Rattle.agent_link.specs.declared.ends.PushFault.{PushFault}
use Rattle.agent_node.specs.Passing.{passes}
use Rattle.agent_node.specs.Linked.{passing}
use Rattle.agent_node.proofs.Pushing.{taken, rest_printable, passes_next, passes_full, passes_none, not_full, was_full}
use Rattle.agent_node.proofs.queue.Queue.push.Goals as goal

pub loop-parcel-preserved : goal.loop-parcel-preserved
loop-parcel-preserved c =
    let q = c.loop-parcel.self-inside.parcels.items in
    let rest = c.pop_front.new.self.items in
    let p = c.in-Some.parcel in
    let out = c.loop-parcel.out in
    let e : q ≡ p ∷ rest = taken q rest c.pop_front.result p c.pop_front.ensures.items c.in-Some.is in
    let h = not_full c.push.result c.in-Ok.field-0 (PushFault.Full p) _ c.in-Ok.is c.push.ensures.full in
    let new : c.push.new.self ≡ pushed p out = c.in-Ok.ensures.ok in
    record {
      passes = ap (λ (z : OutHalf). passes rest z.plan z.parcels) new ∙ (passes_next q rest p out.plan out.parcels e h ∙ c.loop-parcel.invariant.passes);
      printable = rest_printable q rest p e c.loop-parcel.invariant.printable;
      wire = ap (λ (z : OutHalf). z.wire) new ∙ c.loop-parcel.invariant.wire;
    }

pub returns-in-Err-Full-clause-passes : goal.returns-in-Err-Full-clause-passes
returns-in-Err-Full-clause-passes c =
    let q = c.loop-parcel.self-inside.parcels.items in
    let rest = c.pop_front.new.self.items in
    let p = c.in-Some.parcel in
    let out = c.loop-parcel.out in
    let left = c.push_front_reserved.new.self.items in
    let e : q ≡ p ∷ rest = taken q rest c.pop_front.result p c.pop_front.ensures.items c.in-Some.is in
    let back : handed_back (PushFault.Full c.in-Err-Full.parcel) ≡ p = search rules in
    let is = c.in-Err-Full.is ∙ ap (λ (f : PushFault). Err f) c.in-Err-Full.field-0-is in
    let full = was_full c.push.result c.in-Err-Full.parcel p _ is c.push.ensures.full back in
    let same : c.push.new.self ≡ out = search rules in
    let whole : left ≡ c.in-Err-Full.parcel ∷ rest = search rules in
    let again : left ≡ q = whole ∙ (ap (λ (x : Parcel). x ∷ rest) back ∙ sym e) in
    ap (passing left) same ∙ (ap (λ (ps : List Parcel). passing ps out) again ∙ (sym (passes_full q rest p out.plan out.parcels e full) ∙ c.loop-parcel.invariant.passes))

pub returns-clause-passes : goal.returns-clause-passes
returns-clause-passes c =
    let q = c.loop-parcel.self-inside.parcels.items in
    let left = c.pop_front.new.self.items in
    let out = c.loop-parcel.out in
    let none : q ≡ [] = search rules in
    let same : left ≡ q = search rules in
    ap (λ (ps : List Parcel). passing ps out) same ∙ (sym (passes_none q out.plan out.parcels none) ∙ c.loop-parcel.invariant.passes)

pub invariant_of-self-in-Err-NoMemory : goal.invariant_of-self-in-Err-NoMemory
invariant_of-self-in-Err-NoMemory c =
    let q = c.loop-parcel.self-inside.parcels.items in
    let rest = c.pop_front.new.self.items in
    rest_printable q rest c.in-Some.parcel (taken q rest c.pop_front.result c.in-Some.parcel c.pop_front.ensures.items c.in-Some.is) c.loop-parcel.invariant.printable
