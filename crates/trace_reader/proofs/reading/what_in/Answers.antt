use Rattle.trace_reader.proofs.reading.what_in.Goals as goal

pub returns-then-eq-clause-happens_now : goal.returns-then-eq-clause-happens_now
returns-then-eq-clause-happens_now c = c.ticked_in.ensures.happens_now c.args.now c.args.asks

pub returns-then-eq-3-clause-happens_now : goal.returns-then-eq-3-clause-happens_now
returns-then-eq-3-clause-happens_now c = c.got_in.ensures.happens_now c.args.asks

pub returns-then-eq-4-clause-happens_now : goal.returns-then-eq-4-clause-happens_now
returns-then-eq-4-clause-happens_now c = c.worked_in.ensures.happens_now c.args.asks

pub returns-then-eq-5-clause-happens_now : goal.returns-then-eq-5-clause-happens_now
returns-then-eq-5-clause-happens_now c = c.forced_in.ensures.happens_now c.args.asks

pub returns-then-eq-6-clause-happens_now : goal.returns-then-eq-6-clause-happens_now
returns-then-eq-6-clause-happens_now c = c.acked_in.ensures.happens_now c.args.asks
