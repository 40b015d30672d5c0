use Rattle.std.proofs.Common.{◌≡◌, ◌∙◌, ◌<◌, ◌++◌, ◌∷◌, [], true, false, List, length, sym, ap, subst}
use Rattle.std.specs.List.{list_any}
use Rattle.nsi_primitive.specs.declared.message.Header.{Header}
use Rattle.agent_state.specs.declared.parent.OpenQuery.{OpenQuery}
use Rattle.agent_state.specs.declared.parent.Part.{Part}
use Rattle.agent_state.specs.State.{children_at, record_at, sends}
use Rattle.aggregator_agent.specs.declared.connection.Connection.{Connection}
use Rattle.aggregator_agent.specs.Below.{Sought, is_asked, nested_reply, opened, seek}
use Rattle.aggregator_agent.specs.Bonds.{Bond, bond_at, children_of}
use Rattle.aggregator_agent.specs.Clock.{due_for}
use Rattle.aggregator_agent.specs.Core.{state_at}
use Rattle.aggregator_agent.specs.Open.{sought_by}
use Rattle.aggregator_agent.specs.Setting.{setting_of}
use Rattle.aggregator_agent.proofs.Answering.{opens_waiting, opens_answered}
use Rattle.aggregator_agent.proofs.Chaining.{same_all}
use Rattle.aggregator_agent.proofs.Queried.{bond_there}
use Rattle.aggregator_agent.proofs.Stepping.{views_at}
use Rattle.aggregator_agent.proofs.aggregator_core.Core.open_query.Goals as goal

pub returns-then-waits-clause-step : goal.returns-then-waits-clause-step
returns-then-waits-clause-step c =
    let d = c.args.self.now in
    let m = c.args.message.now in
    let n = c.args.place in
    let item = c.index-all-place.result in
    let at : bond_at n d.connections ≡ _ =
    sym (ap (bond_at n) c.items-all.ensures) ∙ bond_there c.items-all.result.now n item (subst (λ (bs : List Bond). n < length bs) (sym c.items-all.ensures) c.requires) c.index-all-place.is
    in
    let x : Sought = sought_by c.in_ok-sought.sought in
    let views : children_at n (children_of d.connections) ≡ c.deref.result.now = views_at d.connections n c.requires ∙ (ap (λ (b : Bond). b.children) at ∙ (ap (λ (y : Connection). y.children.items) c.index-all-place.is ∙ sym c.deref.ensures.value)) in
    let is : x ≡ seek d.agent d.next (children_at n (children_of d.connections)) = c.in_ok-sought.ensures ∙ ap (seek d.agent d.next) (sym views) in
    let waits : list_any is_asked x.parts ≡ true = sym (c.waits.ensures ∙ ap (list_any is_asked) (c.items.ensures ∙ c.from_items.ensures)) ∙ c.if-waits.true in
    let q : OpenQuery = record { header = c.in_ok-copy.field-0; place = n; parts = c.from_items.result } in
    let same : q ≡ opened m n x =
    ap (λ (h : Header). let y : OpenQuery = record { header = h; place = n; parts = c.from_items.result } in y) c.in_ok-copy.ensures
    ∙ ap (λ (ps : List Part). let y : OpenQuery = record { header = m.header; place = n; parts = ps } in y) c.from_items.ensures
    in
    same_all d c.keep_query.new.self c.keep_query.result
    (λ setting s. sends (record s { base = record s.base { next = x.next }; dues = s.dues ++ due_for n s.base.now x.asked; queries = s.queries ++ q ∷ [] }) x.asked) _
    (λ t route. let s = state_at d in
    ap (λ (y : OpenQuery). sends (record s { base = record s.base { next = x.next }; dues = s.dues ++ due_for n s.base.now x.asked; queries = s.queries ++ y ∷ [] }) x.asked) same
    ∙ opens_waiting (setting_of t d.agent route) s n m x is waits)
    c.keep_query.ensures.step

pub returns-else-waits-clause-step : goal.returns-else-waits-clause-step
returns-else-waits-clause-step c =
    let d = c.args.self.now in
    let m = c.args.message.now in
    let n = c.args.place in
    let item = c.index-all-place.result in
    let at : bond_at n d.connections ≡ _ =
    sym (ap (bond_at n) c.items-all.ensures) ∙ bond_there c.items-all.result.now n item (subst (λ (bs : List Bond). n < length bs) (sym c.items-all.ensures) c.requires) c.index-all-place.is
    in
    let x : Sought = sought_by c.in_ok-sought.sought in
    let views : children_at n (children_of d.connections) ≡ c.deref.result.now = views_at d.connections n c.requires ∙ (ap (λ (b : Bond). b.children) at ∙ (ap (λ (y : Connection). y.children.items) c.index-all-place.is ∙ sym c.deref.ensures.value)) in
    let is : x ≡ seek d.agent d.next (children_at n (children_of d.connections)) = c.in_ok-sought.ensures ∙ ap (seek d.agent d.next) (sym views) in
    let rests : list_any is_asked x.parts ≡ false = sym (c.waits.ensures ∙ ap (list_any is_asked) (c.items.ensures ∙ c.from_items.ensures)) ∙ c.if-waits.false in
    let q : OpenQuery = record { header = c.in_ok-copy.field-0; place = n; parts = c.from_items.result } in
    let same : q ≡ opened m n x =
    ap (λ (h : Header). let y : OpenQuery = record { header = h; place = n; parts = c.from_items.result } in y) c.in_ok-copy.ensures
    ∙ ap (λ (ps : List Part). let y : OpenQuery = record { header = m.header; place = n; parts = ps } in y) c.from_items.ensures
    in
    same_all d c.answer_query.new.self c.answer_query.result (λ setting s. sends s (nested_reply setting.agent.name (record_at q.place s.base.records) q ∷ [])) _
    (λ t route. let s = state_at d in
    ap (λ (y : OpenQuery). sends s (nested_reply d.agent.name (record_at y.place s.base.records) y ∷ [])) same ∙ opens_answered (setting_of t d.agent route) s n m x is rests)
    c.answer_query.ensures.step
