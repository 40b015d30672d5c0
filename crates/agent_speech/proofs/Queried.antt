-- What answers a query by rows is an answer.
use Rattle.std.proofs.Common.{◌≡◌, true, false, arith}
use Rattle.nsi_primitive.specs.Messages.{has_rows}
use Rattle.nsi_primitive.specs.declared.message.Body.{Body}
use Rattle.connection_record.specs.Speaking.{is_asking, is_noting, is_answering}

pub rows_answer : (body : Body) → has_rows body ≡ true → is_answering body ≡ true
unfolding is_answering is_asking is_noting
rows_answer body e = grind (arith, e)

pub rows_ask : (body : Body) → has_rows body ≡ true → is_asking body ≡ false
unfolding is_asking
rows_ask body e = grind (arith, e)
