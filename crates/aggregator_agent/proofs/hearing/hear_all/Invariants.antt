use Rattle.std.proofs.Common.{◌≡◌, ◌||◌, [], drop, length}
use Rattle.std.specs.List.{list_any}
use Rattle.aggregator_agent.specs.Turns.{hear_one, hear_each, loses, breaks}
use Rattle.aggregator_agent.proofs.Each.{IsEach, behind}
use Rattle.aggregator_agent.proofs.hearing.hear_all.Given as goal

abbrev pub invariant-loop-place : goal.invariant-loop-place
invariant-loop-place l =
    record {
      each : IsEach (λ n x. hear_one l.is_ending l.message l.agent n x)
          (behind [] l.initial.turning.asked.items (hear_each l.is_ending l.message l.agent l.initial.turning.next l.initial.children.items))
          l.place l.children.items l.turning.asked.items l.turning.next;
      lost : (l.heard.is_lost || list_any (loses l.message) (drop l.place l.children.items)) ≡ list_any (loses l.message) l.initial.children.items;
      broken : (l.heard.is_broken || list_any (breaks l.message) (drop l.place l.children.items)) ≡ list_any (breaks l.message) l.initial.children.items;
      long : length l.children.items ≡ length l.initial.children.items;
      replies : l.turning.replies ≡ l.initial.turning.replies;
      notices : l.turning.notices ≡ l.initial.turning.notices;
    }
