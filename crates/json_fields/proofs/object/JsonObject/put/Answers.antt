use Rattle.std.proofs.Common.{◌∙◌, sym, ap, subst, arith, true, cond}
use Rattle.std.specs.List.{insert}
use Rattle.std.specs.Prelude.{is_ok}
use Rattle.json_fields.specs.Members.{place_in, HasKeyAt, members_from, scalar_of}
use Rattle.std.proofs.lemmas.Bool.{false≢true}
use Rattle.json_fields.proofs.Placed.{here_within, place_within, put_again, put_or_not}
use Rattle.json_fields.proofs.Tested.{plain_after, plain_either}
use Rattle.json_fields.proofs.object.JsonObject.put.Goals as goal

pub index_mut-requires : goal.index_mut-requires
index_mut-requires c =
    let low = here_within c.args.key c.deref-2.result.now c.place_in-place.result (c.is_at.ensures.0 c.if-is_at.true) in
    omega (arith, low, c.deref-2.ensures.len)

pub insert-requires : goal.insert-requires
insert-requires c =
    let low = place_within c.args.key c.deref.result.now in
    omega (arith, low, c.place_in-place.ensures, c.deref.ensures.len)

pub invariant_of-self : goal.invariant_of-self
invariant_of-self c = record {
  plain = plain_after c.args.key (scalar_of c.args.value) (members_from c.args.self.now.members.items) _ c.args.self.now.plain c.requires
      (put_again (record { key = c.args.key; value = c.args.value }) c.args.self.now.members.items c.place_in-place.result (c.place_in-place.ensures ∙ ap (place_in c.args.key) c.deref.ensures.value)
      (subst (λ ms. HasKeyAt c.args.key ms c.place_in-place.result) c.deref-2.ensures.value (c.is_at.ensures.0 c.if-is_at.true)));
}

pub returns-then-is_at-clause-put : goal.returns-then-is_at-clause-put
returns-then-is_at-clause-put c =
    put_again (record { key = c.args.key; value = c.args.value }) c.args.self.now.members.items c.place_in-place.result (c.place_in-place.ensures ∙ ap (place_in c.args.key) c.deref.ensures.value)
    (subst (λ ms. HasKeyAt c.args.key ms c.place_in-place.result) c.deref-2.ensures.value (c.is_at.ensures.0 c.if-is_at.true))

pub invariant_of-self-else-is_at : goal.invariant_of-self-else-is_at
invariant_of-self-else-is_at c = record {
  plain = plain_either (is_ok c.insert.result) c.args.key (scalar_of c.args.value) (members_from c.args.self.now.members.items) _ c.args.self.now.plain c.requires
      (put_or_not (is_ok c.insert.result) (record { key = c.args.key; value = c.args.value }) c.args.self.now.members.items c.insert.new.self.items c.place_in-place.result (c.place_in-place.ensures ∙ ap (place_in c.args.key) c.deref.ensures.value) c.insert.ensures.items
      (subst (λ ms. HasKeyAt c.args.key ms c.place_in-place.result → ⊥) c.deref-2.ensures.value (λ h. false≢true (sym c.if-is_at.false ∙ c.is_at.ensures.1 h))));
}

pub returns-in_ok-insert-clause-put : goal.returns-in_ok-insert-clause-put
returns-in_ok-insert-clause-put c =
    put_or_not true (record { key = c.args.key; value = c.args.value }) c.args.self.now.members.items c.insert.new.self.items c.place_in-place.result (c.place_in-place.ensures ∙ ap (place_in c.args.key) c.deref.ensures.value) (c.insert.ensures.items ∙ ap (λ b. cond b (insert c.args.self.now.members.items c.place_in-place.result (record { key = c.args.key; value = c.args.value })) c.args.self.now.members.items) (ap is_ok c.in_ok-insert.was))
    (subst (λ ms. HasKeyAt c.args.key ms c.place_in-place.result → ⊥) c.deref-2.ensures.value (λ h. false≢true (sym c.if-is_at.false ∙ c.is_at.ensures.1 h)))
