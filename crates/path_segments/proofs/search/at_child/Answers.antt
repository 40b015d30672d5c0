use Rattle.std.proofs.Common.{[], List, Bool, get_or, sym, ◌∙◌, subst, arith}
use Rattle.path_segments.specs.Steps.{at, Way}
use Rattle.path_segments.specs.Searches.{Closed, Entry, IsNoted, marked, what_remains}
use Rattle.path_segments.proofs.Below.{ways}
use Rattle.path_segments.proofs.ChildSearches.{searches_set}
use Rattle.path_segments.proofs.Named.{some_item}
use Rattle.path_segments.proofs.ReadItems.{some_read}
use Rattle.path_segments.proofs.Searches.{changes_more, noted_kept}
use Rattle.path_segments.proofs.search.at_child.Goals as goal

pub note_entries-requires-clause-remaining : goal.note_entries-requires-clause-remaining
note_entries-requires-clause-remaining c =
    let is_child = some_item c.args.search.now.children.now c.args.step.place 0 c.requires.place in
    let is_search = some_read c.args.searches.now.items c.args.step.place c.index_mut-child.result.now (omega (arith, c.requires.place, c.requires.searches.same_length)) c.index_mut-child.ensures.value in
    (c.requires.searches.each c.args.step.place (get_or c.args.search.now.children.now c.args.step.place 0) c.index_mut-child.result.now is_child is_search).size

pub note_entries-requires-clause-closed : goal.note_entries-requires-clause-closed
note_entries-requires-clause-closed c =
    let is_child = some_item c.args.search.now.children.now c.args.step.place 0 c.requires.place in
    let is_search = some_read c.args.searches.now.items c.args.step.place c.index_mut-child.result.now (omega (arith, c.requires.place, c.requires.searches.same_length)) c.index_mut-child.ensures.value in
    subst (λ (z : List Bool). Closed c.args.search.now.topology.now (marked z) (IsNoted (at c.args.steps.now.items)) (what_remains c.index_mut-child.result.now.remaining.items) []) (sym c.deref.ensures.value)
    (c.requires.searches.each c.args.step.place (get_or c.args.search.now.children.now c.args.step.place 0) c.index_mut-child.result.now is_child is_search).closed

pub returns-clause-changes : goal.returns-clause-changes
returns-clause-changes c =
    let is_child = some_item c.args.search.now.children.now c.args.step.place 0 c.requires.place in
    let is_search = some_read c.args.searches.now.items c.args.step.place c.index_mut-child.result.now (omega (arith, c.requires.place, c.requires.searches.same_length)) c.index_mut-child.ensures.value in
    let s = c.requires.searches.each c.args.step.place (get_or c.args.search.now.children.now c.args.step.place 0) c.index_mut-child.result.now is_child is_search in
    changes_more (Entry c.args.search.now.topology.now (marked c.index_mut-child.result.now.below.items) c.args.step) (λ p. Way c.args.search.now.topology.now c.args.search.now.depth c.args.search.now.children.now c.args.step.place p c.args.step.exit) c.args.step
    (at c.args.steps.now.items) (at c.note_entries.new.steps.items)
    (λ p. (ways c.args.search.now.topology.now c.requires.leaves c.args.search.now.depth c.args.step.place (get_or c.args.search.now.children.now c.args.step.place 0) c.args.search.now.children.now c.index_mut-child.result.now.below.items is_child s.below c.args.step.exit p).0)
    (rw c.deref.ensures.value at c.in_ok-grew.ensures.changes)

pub returns-clause-noted : goal.returns-clause-noted
returns-clause-noted c = λ p w.
    let is_child = some_item c.args.search.now.children.now c.args.step.place 0 c.requires.place in
    let is_search = some_read c.args.searches.now.items c.args.step.place c.index_mut-child.result.now (omega (arith, c.requires.place, c.requires.searches.same_length)) c.index_mut-child.ensures.value in
    let s = c.requires.searches.each c.args.step.place (get_or c.args.search.now.children.now c.args.step.place 0) c.index_mut-child.result.now is_child is_search in
    let noted = rw c.deref.ensures.value at c.in_ok-grew.ensures.noted in
    noted p ((ways c.args.search.now.topology.now c.requires.leaves c.args.search.now.depth c.args.step.place (get_or c.args.search.now.children.now c.args.step.place 0) c.args.search.now.children.now c.index_mut-child.result.now.below.items is_child s.below c.args.step.exit p).1 w)

pub returns-clause-searches : goal.returns-clause-searches
returns-clause-searches c =
    let is_child = some_item c.args.search.now.children.now c.args.step.place 0 c.requires.place in
    let is_search = some_read c.args.searches.now.items c.args.step.place c.index_mut-child.result.now (omega (arith, c.requires.place, c.requires.searches.same_length)) c.index_mut-child.ensures.value in
    let s = c.requires.searches.each c.args.step.place (get_or c.args.search.now.children.now c.args.step.place 0) c.index_mut-child.result.now is_child is_search in
    searches_set c.args.search.now.topology.now c.args.search.now.depth c.args.search.now.children.now (IsNoted (at c.args.steps.now.items)) (IsNoted (at c.note_entries.new.steps.items)) c.args.searches.now.items c.args.step.place
    (get_or c.args.search.now.children.now c.args.step.place 0) c.index_mut-child.result.now (record { below = c.index_mut-child.result.now.below; remaining = c.note_entries.new.remaining })
    (λ p n. noted_kept (Entry c.args.search.now.topology.now (marked c.deref.result.now) c.args.step) c.args.step (at c.args.steps.now.items) (at c.note_entries.new.steps.items) c.in_ok-grew.ensures.changes p n)
    is_child is_search
    (record {
      below = s.below;
      size = c.in_ok-grew.ensures.same_length ∙ s.size;
      closed = rw c.deref.ensures.value at c.in_ok-grew.ensures.closed;
    })
    c.requires.searches
