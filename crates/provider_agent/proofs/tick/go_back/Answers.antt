use Rattle.std.proofs.Common.{◌≡◌, ◌<◌, ◌+◌, ◌∙◌, refl, length, set, get_or, drop, sym, subst, arith}
use Rattle.std.proofs.lemmas.List.{length-set, get_or_read_under}
use Rattle.std.proofs.lemmas.List.Elements.{Contains-get_or}
use Rattle.connection_record.specs.Later.{IsLater}
use Rattle.connection_record.specs.Saved.{saved_of}
use Rattle.connection_record.specs.declared.record.Record.{Record}
use Rattle.provider_agent.specs.State.{no_record, record_at}
use Rattle.provider_agent.specs.Ticks.{CanGoBack}
use Rattle.provider_agent.specs.declared.tick.Kept.{Kept}
use Rattle.provider_agent.proofs.TickUndo.{later_at, back_less, all_back}
use Rattle.provider_agent.proofs.tick.go_back.Goals as goal

pub index_mut-requires : goal.index_mut-requires
index_mut-requires c =
    let one = c.one-item.result in
    let inside : one.place < length c.args.records.now.items =
    subst (λ (k : Kept). k.place < length c.args.records.now.items) (sym c.one-item.is) (c.requires (get_or c.args.kept.now c.loop-one.one-index one) (Contains-get_or c.args.kept.now c.loop-one.one-index one c.loop-one-test.true)) in
    omega (arith, inside, c.loop-one.invariant.long)

pub loop-one-preserved : goal.loop-one-preserved
loop-one-preserved c =
    let kept = c.args.kept.now in
    let i = c.loop-one.one-index in
    let one = c.one-item.result in
    let now = c.loop-one.records.items in
    let before = c.args.records.now.items in
    let is : get_or kept i one ≡ one = sym c.one-item.is in
    let inside : one.place < length before = subst (λ (k : Kept). k.place < length before) is (c.requires (get_or kept i one) (Contains-get_or kept i one c.loop-one-test.true)) in
    let within : one.place < length now = omega (arith, inside, c.loop-one.invariant.long) in
    let own_is : c.index_mut.result.now ≡ record_at one.place now = get_or_read_under now one.place (length now) c.index_mut.result.now no_record c.index_mut.ensures.value within refl in
    record {
      back = λ rs saved back.
          let so_far = c.loop-one.invariant.back rs saved back in
          let there : one.place < length rs = omega (arith, so_far.long, within) in
          let later : IsLater (record_at one.place rs) c.index_mut.result.now = subst (IsLater (record_at one.place rs)) (sym own_is) (later_at rs now (drop i kept) one.place so_far there) in
          let saved_is = subst (λ (k : Kept). (k.place < length rs) × (k.saved ≡ saved_of (record_at k.place rs))) is (saved (get_or kept i one) (Contains-get_or kept i one c.loop-one-test.true)) in
          let restored : c.restore.new.self ≡ record_at one.place rs = c.restore.ensures (record_at one.place rs) saved_is.1 later in
          let there_at : (get_or kept i one).place < length rs = subst (λ (k : Kept). k.place < length rs) (sym is) there in
          let less = back_less rs now kept i one so_far c.loop-one-test.true there_at in
          let at_one = subst (λ (k : Kept). CanGoBack rs (set now k.place (record_at k.place rs)) (drop (i + 1) kept)) is less in
          subst (λ (r : Record). CanGoBack rs (set now one.place r) (drop (i + 1) kept)) (sym restored) at_one;
      long = length-set now one.place c.restore.new.self ∙ c.loop-one.invariant.long;
    }

pub returns : goal.returns
returns c rs undo = all_back rs c.loop-one.records.items c.args.kept.now c.loop-one.one-index c.loop-one-test.false (c.loop-one.invariant.back rs undo.saved undo.back)
