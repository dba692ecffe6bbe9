use Rattle.std.proofs.Common.{refl}
use Rattle.pile.proofs.laws.bench_rows.Goals as goal

-- the rules compute each row
pub returns : goal.returns
returns c = record {
  rows_1_to_5 = refl;
  row_6_fifo = refl;
  row_6_lru = refl;
  emptied_way = refl;
  row_7 = refl;
  row_8 = refl;
  clean_load = refl;
  row_9 = refl;
  row_10 = refl;
  row_11 = refl;
  row_12_cost = refl;
  row_12_figures = refl;
  row_12_bound = refl;
}
