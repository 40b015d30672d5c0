use Rattle.std.proofs.Common.{refl}
use Rattle.connection_record.proofs.Tables.{at_hand, reserves_next, reserves_says, reserves_without_row, provisions_next, provisions_says, provisions_without_row, lives_next, lives_says, lives_without_row}
use Rattle.connection_record.proofs.laws.tables.Goals as goal

pub returns : goal.returns
returns c = record {
  reservation = λ move now r h. record {
    state = reserves_next r.rsm move now r refl (at_hand r.rsm r.pending h.pending);
    says = reserves_says r.rsm move now r (at_hand r.rsm r.pending h.pending);
    without = λ e. reserves_without_row r.rsm move now r e;
  };
  provision = λ side move now r. record {
    state = provisions_next side r.psm move now r refl;
    says = provisions_says side r.psm move now r;
    without = λ e. provisions_without_row side r.psm move now r e;
  };
  lifecycle = λ move now r. record {
    state = lives_next r.lsm move now r refl;
    says = lives_says r.lsm move now r;
    without = λ e. lives_without_row r.lsm move now r e;
  };
}
