-- An agent of any kind: one entry, and entries one after another.
use Rattle.std.proofs.Common.{◌≡◌, List, [], ◌∷◌, Some, refl, sym, subst, slice_get}
use Rattle.std.specs.List.{All}
use Rattle.std.proofs.lemmas.List.Elements.{All-nil, All-head, All-tail, All-get_or}
use Rattle.std.proofs.lemmas.Option.{get_or_from_slice_get, slice_get_within, none-some}
use Rattle.nsi_primitive.specs.Printable.{IsPrintableEntry}
use Rattle.nsi_primitive.specs.declared.entry.Entry.{Entry}
use Rattle.connection_record.specs.Courses.{Rises}
use Rattle.agent_state.specs.State.{AgentState, blank_agent}
use Rattle.provider_agent.specs.Safety.{IsRising}
use Rattle.nsi_agent.specs.Homes.{Role, provides, aggregates, requests, Home}
use Rattle.nsi_agent.specs.Steps.{after, after_as}
use Rattle.nsi_agent.specs.Told.{Told, goes_on, told}
use Rattle.nsi_agent.specs.Laws.{IsGood, BlankIsGood, EntriesKeepGood}
use Rattle.nsi_agent.proofs.Telling.{telling_is_in_parts}
use Rattle.run_growth.specs.Growth.{HasGrown}
use Rattle.run_growth.specs.AgentLaws.{EntriesGrow, EntriesLeaveAll, IsAlwaysGood, RecordsRise}
use Rattle.run_growth.proofs.Growing.{grown_state, grown_further, labels_same, all_views_same}
use Rattle.run_growth.proofs.Providers.{provider_stays}
use Rattle.run_growth.proofs.Aggregators.{aggregator_grows, aggregator_rises}
use Rattle.run_growth.proofs.Requesters.{requester_grows, requester_has_no_records}

---- An entry

grows_by : (role : Role) (s : AgentState) (e : Entry) → HasGrown s (after_as role s e).state
unfolding after_as
grows_by (provides setting stp_of) s e = record { records = provider_stays setting stp_of s.base e; views = labels_same s.views; children = all_views_same s.children }
grows_by (aggregates setting) s e = aggregator_grows setting s e
grows_by (requests setting) s e = requester_grows setting s e

pub entries_grow : EntriesGrow
entries_grow h s e = grows_by h.role s e

---- Entries one after another

grows_on : (h : Home) (s : AgentState) (es : List Entry) → HasGrown s (goes_on h s es).state
unfolding goes_on
grows_on h s [] = grown_state s
grows_on h s (e ∷ es) = grown_further s (after h s e).state (goes_on h (after h s e).state es).state (entries_grow h s e) (grows_on h (after h s e).state es)

pub entries_leave_all : EntriesLeaveAll
entries_leave_all h es fs =
    subst (λ (x : Told). HasGrown (told h es).state x.state) (sym (telling_is_in_parts h blank_agent es fs)) (grows_on h (told h es).state fs)

-- what each entry keeps is true in the end
along : (h : Home) (P : AgentState → Type 0) → ((s : AgentState) (e : Entry) → IsPrintableEntry e → P s → P (after h s e).state) → (s : AgentState) (es : List Entry) → P s → All IsPrintableEntry es → P (goes_on h s es).state
unfolding goes_on
along h P keeps s [] p all = p
along h P keeps s (e ∷ es) p all =
    along h P keeps (after h s e).state es (keeps s e (All-head IsPrintableEntry e es all) p) (All-tail IsPrintableEntry e es all)

---- Good, and rising

-- the laws of an agent's states
pub record AreLaws : Type 0 where
  pub blank : BlankIsGood
  pub good : EntriesKeepGood

pub is_always_good : AreLaws → IsAlwaysGood
is_always_good laws h es all = along h (IsGood h.role) (λ s e p g. laws.good h s e p g) blank_agent es (laws.blank h) all

-- what is known of the records of an agent by its role
abbrev Knows : Role → AgentState → Type 0
Knows (provides setting stp_of) s = IsGood (provides setting stp_of) s
Knows (aggregates setting) s = All Rises s.base.records
Knows (requests setting) s = s.base.records ≡ []

knows_blank : AreLaws → (h : Home) (role : Role) → h.role ≡ role → Knows role blank_agent
knows_blank laws h (provides setting stp_of) e = subst (λ (r : Role). IsGood r blank_agent) e (laws.blank h)
knows_blank laws h (aggregates setting) e = All-nil Rises
knows_blank laws h (requests setting) e = refl

knows_after : AreLaws → (h : Home) (role : Role) → h.role ≡ role → (s : AgentState) (e : Entry) → IsPrintableEntry e → Knows role s → Knows role (after_as role s e).state
unfolding after_as
knows_after laws h (provides setting stp_of) same s e p k =
    subst (λ (r : Role). IsGood r (after_as r s e).state) same (laws.good h s e p (subst (λ (r : Role). IsGood r s) (sym same) k))
knows_after laws h (aggregates setting) same s e p k = aggregator_rises setting s e k
knows_after laws h (requests setting) same s e p k = requester_has_no_records setting s e k

rising_by : (role : Role) (s : AgentState) → Knows role s → IsRising s.base
rising_by (provides setting stp_of) s k n r h = (k.records n r h).rising
rising_by (aggregates setting) s k n r h =
    let own : Rises r = subst Rises (get_or_from_slice_get s.base.records n r r h) (All-get_or Rises s.base.records n r (slice_get_within s.base.records n r h) k) in
    own.rising
rising_by (requests setting) s k n r h = absurd (none-some r (subst (λ rs. slice_get rs n ≡ Some r) k h))

pub records_rise : AreLaws → RecordsRise
records_rise laws h es all =
    rising_by h.role (told h es).state (along h (Knows h.role) (λ s e p k. knows_after laws h h.role refl s e p k) blank_agent es (knows_blank laws h h.role refl) all)
