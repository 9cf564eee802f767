-- The claims of specs/Claims.antt, proved. Assumes nothing.
use Rattle.cell.specs.Claims.{Claims}
use Rattle.cell.proofs.Events.{answer_is, refused_same, settings_same}
use Rattle.cell.proofs.Looked.{done_looks, refused_looks, full_looks}
use Rattle.cell.proofs.StaysWithin.{opening_in, kept_event}

pub claims : Claims
claims = record {
  opened = opening_in;
  kept = kept_event;
  number = answer_is;
  unchanged = refused_same;
  settings = settings_same;
  filled = done_looks;
  unlooked = refused_looks;
  all_looked = full_looks;
}
