-- States that have grown: one that stays, and one after another.
use Rattle.std.proofs.Common.{List, refl, ◌∙◌}
use Rattle.connection_record.specs.declared.record.Record.{Record}
use Rattle.connection_record.specs.Later.{IsLater}
use Rattle.connection_record.proofs.Growing.{later_refl, later_trans}
use Rattle.child_connection.specs.Views.{ChildConnection}
use Rattle.agent_state.specs.declared.parent.View.{View}
use Rattle.agent_state.specs.State.{AgentState}
use Rattle.run_growth.specs.Growth.{Stay, IsLaterOfLabel, HasGrown}
use Rattle.run_growth.proofs.Staying.{stay_same, stay_then}
use Rattle.run_growth.proofs.Views.{ViewsStay, view_same, view_then, views_same, views_then}

abbrev pub RecordsStay : List Record → List Record → Type 0
RecordsStay rs qs = Stay IsLater rs qs

pub records_same : (rs : List Record) → RecordsStay rs rs
records_same rs = stay_same IsLater later_refl rs

abbrev pub AllViewsStay : List (List ChildConnection) → List (List ChildConnection) → Type 0
AllViewsStay xss yss = Stay ViewsStay xss yss

pub all_views_same : (xss : List (List ChildConnection)) → AllViewsStay xss xss
all_views_same xss = stay_same ViewsStay views_same xss

pub label_same : (v : View) → IsLaterOfLabel v v
label_same v = record { label = refl; child = view_same v.child }

pub label_then : (u v w : View) → IsLaterOfLabel u v → IsLaterOfLabel v w → IsLaterOfLabel u w
label_then u v w p q = record { label = q.label ∙ p.label; child = view_then u.child v.child w.child p.child q.child }

pub labels_same : (vs : List View) → Stay IsLaterOfLabel vs vs
labels_same vs = stay_same IsLaterOfLabel label_same vs

pub grown_state : (s : AgentState) → HasGrown s s
grown_state s = record { records = records_same s.base.records; views = labels_same s.views; children = all_views_same s.children }

pub grown_further : (s t u : AgentState) → HasGrown s t → HasGrown t u → HasGrown s u
grown_further s t u p q =
    record {
      records = stay_then IsLater later_trans s.base.records t.base.records u.base.records p.records q.records;
      views = stay_then IsLaterOfLabel label_then s.views t.views u.views p.views q.views;
      children = stay_then ViewsStay views_then s.children t.children u.children p.children q.children;
    }
