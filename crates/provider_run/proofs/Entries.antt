-- The entries of a batch: an entry, and the work that waits then.
use Rattle.std.proofs.Common.{◌≡◌, ◌<◌, ◌∙◌, ℕ, List, [], ◌∷◌, ◌++◌, Option, Some, None, sym, ap, append_assoc, append-nil}
use Rattle.nsi_primitive.specs.declared.entry.Entry.{Entry}
use Rattle.nsi_primitive.specs.declared.entry.Input.{Input}
use Rattle.nsi_primitive.specs.declared.state.Machine.{Machine}
use Rattle.provider_agent.specs.Setting.{Setting}
use Rattle.provider_agent.specs.State.{State, Standing}
use Rattle.provider_agent.specs.Steps.{after, waiting_work}
use Rattle.provider_agent.specs.Good.{IsGood}
use Rattle.provider_agent.specs.Working.{works_among}
use Rattle.provider_run.specs.Works.{now_at, all_works}
use Rattle.provider_run.proofs.Idle.{works_first}
use Rattle.provider_run.proofs.Working.{works_none}

-- where nothing waits, the entries are whole
pub entries_done : (setting : Setting) (stp_of : List ℕ → Option ℕ) (now : State) (entries whole : List Entry) → waiting_work now ≡ None → entries ++ all_works setting stp_of now ≡ whole → entries ≡ whole
entries_done setting stp_of now entries whole e all =
    sym (ap (λ (es : List Entry). entries ++ es) (works_none (works_among now.records) setting stp_of now e) ∙ append-nil entries) ∙ all

-- one work more
pub entries_more : (setting : Setting) (points : ℕ → List ℕ → Option ℕ) (old : Standing) (now : State) (entries new whole : List Entry) (n : ℕ) (machine : Machine) → old.setting ≡ setting → IsGood setting old.state → old.state.taken < 4194304
    → waiting_work old.state ≡ Some (n, machine) → now ≡ (after old.setting (points old.setting.number) old.state (now_at old.state (Input.Work n machine))).state → new ≡ entries ++ now_at old.state (Input.Work n machine) ∷ []
    → entries ++ all_works setting (points setting.number) old.state ≡ whole → new ++ all_works setting (points setting.number) now ≡ whole
entries_more setting points old now entries new whole n machine at_home good few found state_is new_is all =
    let stp_of : List ℕ → Option ℕ = points setting.number in
    let work : Entry = now_at old.state (Input.Work n machine) in
    let next : State = (after setting stp_of old.state work).state in
    let here : now ≡ next = state_is ∙ ap (λ (h : Setting). (after h (points h.number) old.state work).state) at_home in
    ap (λ (es : List Entry). es ++ all_works setting stp_of now) new_is
    ∙ (append_assoc entries (work ∷ []) (all_works setting stp_of now)
    ∙ (ap (λ s. entries ++ work ∷ all_works setting stp_of s) here
    ∙ (ap (λ (es : List Entry). entries ++ es) (sym (works_first setting stp_of old.state n machine good few found)) ∙ all)))
