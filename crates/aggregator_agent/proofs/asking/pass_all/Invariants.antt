use Rattle.std.proofs.Common.{◌≡◌, [], length}
use Rattle.aggregator_agent.specs.Asking.{pass_one, pass_each}
use Rattle.aggregator_agent.proofs.Each.{IsEach, behind}
use Rattle.aggregator_agent.proofs.asking.pass_all.Given as goal

abbrev pub invariant-loop-place : goal.invariant-loop-place
invariant-loop-place l =
    record {
      each : IsEach (λ n x. pass_one l.message l.agent l.own n x)
          (behind [] l.initial.turning.asked.items (pass_each l.message l.agent l.own l.initial.turning.next l.initial.children.items))
          l.place l.children.items l.turning.asked.items l.turning.next;
      long : length l.children.items ≡ length l.initial.children.items;
      replies : l.turning.replies ≡ l.initial.turning.replies;
      notices : l.turning.notices ≡ l.initial.turning.notices;
    }
