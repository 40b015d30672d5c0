use Rattle.std.proofs.Common.{◌≡◌, ◌<◌, length, get_or, false, inl, inr, sym, ◌∙◌, ap, subst, arith}
use Rattle.std.proofs.lemmas.Option.{slice_get_within}
use Rattle.path_segments.specs.declared.child_search.Remaining.TheVariants.{All, Only, Nothing}
use Rattle.path_segments.specs.Steps.{at}
use Rattle.path_segments.specs.Walks.{In}
use Rattle.path_segments.specs.Searches.{marked, what_remains}
use Rattle.path_segments.proofs.Searches.{enter_nothing}
use Rattle.path_segments.proofs.Entering.{enter_all, enter_one, reached_here, reached_outside}
use Rattle.path_segments.proofs.child_search.enter.Goals as goal

pub returns-then-not-is_marked-clause-searching : goal.returns-then-not-is_marked-clause-searching
returns-then-not-is_marked-clause-searching c =
    enter_nothing c.args.area.now.topology.now (marked c.args.area.now.below.now) c.args.step c.args.exit (at c.args.steps.now.items) (what_remains c.args.remaining.now.items) c.args.exits.now.items c.requires.paired
    (reached_outside c.args.area.now.topology.now (marked c.args.area.now.below.now) c.args.exit c.owner_at-owner_place.result (what_remains c.args.remaining.now.items) c.owner_at-owner_place.ensures.owner
    (λ m. let no_mark : get_or c.args.area.now.below.now c.owner_at-owner_place.result false ≡ false = sym c.is_marked.ensures ∙ c.if-not-is_marked.true in cc)) c.requires.searching

pub note_others-requires-clause-within : goal.note_others-requires-clause-within
note_others-requires-clause-within c = λ p i.
    slice_get_within c.args.area.now.topology.now.owners p c.owner_at-owner_place.result (c.requires.owned.owned c.owner_at-owner_place.result p (subst (In p) c.points_of-points.ensures i))

pub note_others-requires-in-Only-clause-within : goal.note_others-requires-in-Only-clause-within
note_others-requires-in-Only-clause-within c = λ p i.
    let one : what_remains c.args.remaining.now.items c.owner_at-owner_place.result ≡ Only c.in-Only.point = ap (λ z. what_remains z c.owner_at-owner_place.result) (sym c.deref.ensures.value) ∙ sym c.remaining_at.ensures ∙ c.in-Only.is in
    let there = c.requires.searching.closed.only c.owner_at-owner_place.result c.in-Only.point one in
    elim i [ inl e ↦ subst (λ z. z < length c.args.area.now.topology.now.owners) (sym e) (slice_get_within c.args.area.now.topology.now.owners c.in-Only.point c.owner_at-owner_place.result there) | inr e ↦ absurd e ]

pub returns-in_ok-note_others-in-All-clause-changes : goal.returns-in_ok-note_others-in-All-clause-changes
returns-in_ok-note_others-in-All-clause-changes c =
    let all : what_remains c.args.remaining.now.items c.owner_at-owner_place.result ≡ All = ap (λ z. what_remains z c.owner_at-owner_place.result) (sym c.deref.ensures.value) ∙ sym c.remaining_at.ensures ∙ c.in-All.is in
    (enter_all c.args.area.now.topology.now (marked c.args.area.now.below.now) c.args.step c.args.exit c.owner_at-owner_place.result c.args.area.now.owned.now c.points_of-points.result.now (at c.args.steps.now.items) (at c.note_others.new.steps.items)
    c.args.remaining.now.items c.args.exits.now.items c.note_others.new.exits.items c.requires.paired c.requires.owned c.points_of-points.ensures c.owner_at-owner_place.ensures.owner (sym c.is_marked.ensures ∙ c.if-not-is_marked.false)
    (omega (arith, c.owner_at-owner_place.ensures.within, c.requires.remaining)) all c.in_ok-note_others-in-All.ensures.enters c.requires.searching).changes

pub returns-in_ok-note_others-in-All-clause-searching : goal.returns-in_ok-note_others-in-All-clause-searching
returns-in_ok-note_others-in-All-clause-searching c =
    let all : what_remains c.args.remaining.now.items c.owner_at-owner_place.result ≡ All = ap (λ z. what_remains z c.owner_at-owner_place.result) (sym c.deref.ensures.value) ∙ sym c.remaining_at.ensures ∙ c.in-All.is in
    (enter_all c.args.area.now.topology.now (marked c.args.area.now.below.now) c.args.step c.args.exit c.owner_at-owner_place.result c.args.area.now.owned.now c.points_of-points.result.now (at c.args.steps.now.items) (at c.note_others.new.steps.items)
    c.args.remaining.now.items c.args.exits.now.items c.note_others.new.exits.items c.requires.paired c.requires.owned c.points_of-points.ensures c.owner_at-owner_place.ensures.owner (sym c.is_marked.ensures ∙ c.if-not-is_marked.false)
    (omega (arith, c.owner_at-owner_place.ensures.within, c.requires.remaining)) all c.in_ok-note_others-in-All.ensures.enters c.requires.searching).searching

pub returns-in_ok-note_others-in-Only-clause-changes : goal.returns-in_ok-note_others-in-Only-clause-changes
returns-in_ok-note_others-in-Only-clause-changes c =
    let one : what_remains c.args.remaining.now.items c.owner_at-owner_place.result ≡ Only c.in-Only.point = ap (λ z. what_remains z c.owner_at-owner_place.result) (sym c.deref.ensures.value) ∙ sym c.remaining_at.ensures ∙ c.in-Only.is in
    (enter_one c.args.area.now.topology.now (marked c.args.area.now.below.now) c.args.step c.args.exit c.in-Only.point c.owner_at-owner_place.result (at c.args.steps.now.items) (at c.note_others-in-Only.new.steps.items)
    c.args.remaining.now.items c.args.exits.now.items c.note_others-in-Only.new.exits.items c.requires.paired c.owner_at-owner_place.ensures.owner (sym c.is_marked.ensures ∙ c.if-not-is_marked.false)
    (omega (arith, c.owner_at-owner_place.ensures.within, c.requires.remaining)) one c.if-point-exit.true c.in_ok-note_others-in-Only.ensures.enters c.requires.searching).changes

pub returns-in_ok-note_others-in-Only-clause-searching : goal.returns-in_ok-note_others-in-Only-clause-searching
returns-in_ok-note_others-in-Only-clause-searching c =
    let one : what_remains c.args.remaining.now.items c.owner_at-owner_place.result ≡ Only c.in-Only.point = ap (λ z. what_remains z c.owner_at-owner_place.result) (sym c.deref.ensures.value) ∙ sym c.remaining_at.ensures ∙ c.in-Only.is in
    (enter_one c.args.area.now.topology.now (marked c.args.area.now.below.now) c.args.step c.args.exit c.in-Only.point c.owner_at-owner_place.result (at c.args.steps.now.items) (at c.note_others-in-Only.new.steps.items)
    c.args.remaining.now.items c.args.exits.now.items c.note_others-in-Only.new.exits.items c.requires.paired c.owner_at-owner_place.ensures.owner (sym c.is_marked.ensures ∙ c.if-not-is_marked.false)
    (omega (arith, c.owner_at-owner_place.ensures.within, c.requires.remaining)) one c.if-point-exit.true c.in_ok-note_others-in-Only.ensures.enters c.requires.searching).searching

pub returns-in_default-clause-searching : goal.returns-in_default-clause-searching
returns-in_default-clause-searching c =
    let one : what_remains c.args.remaining.now.items c.owner_at-owner_place.result ≡ Only c.in-Only.point = ap (λ z. what_remains z c.owner_at-owner_place.result) (sym c.deref.ensures.value) ∙ sym c.remaining_at.ensures ∙ c.in-Only.is in
    enter_nothing c.args.area.now.topology.now (marked c.args.area.now.below.now) c.args.step c.args.exit (at c.args.steps.now.items) (what_remains c.args.remaining.now.items) c.args.exits.now.items c.requires.paired
    (reached_here c.args.area.now.topology.now (marked c.args.area.now.below.now) c.args.exit c.owner_at-owner_place.result (what_remains c.args.remaining.now.items) c.owner_at-owner_place.ensures.owner (inr (one ∙ ap Only c.if-point-exit.false))) c.requires.searching

pub returns-in_default-2-clause-searching : goal.returns-in_default-2-clause-searching
returns-in_default-2-clause-searching c =
    let none : what_remains c.args.remaining.now.items c.owner_at-owner_place.result ≡ Nothing = ap (λ z. what_remains z c.owner_at-owner_place.result) (sym c.deref.ensures.value) ∙ sym c.remaining_at.ensures ∙ c.in_default.is in
    enter_nothing c.args.area.now.topology.now (marked c.args.area.now.below.now) c.args.step c.args.exit (at c.args.steps.now.items) (what_remains c.args.remaining.now.items) c.args.exits.now.items c.requires.paired
    (reached_here c.args.area.now.topology.now (marked c.args.area.now.below.now) c.args.exit c.owner_at-owner_place.result (what_remains c.args.remaining.now.items) c.owner_at-owner_place.ensures.owner (inl none)) c.requires.searching
