-- The claims of specs/Claims.antt, proved. Assumes nothing.
use mathlib.Core.Path.{refl}
use Rattle.base.specs.Refusals.{first_of, tests_in, fails_at}
use Rattle.base.specs.Lists.{all_of}
use Rattle.wire.specs.Wire.{number_at, total, numbers_at}
use Rattle.message.specs.Message.{last_tick}
use Rattle.layout.specs.Layout.{offset_in}
use Rattle.state.specs.StateLimits.{last_longest}
use Rattle.record.specs.Record.{record_fault}
use Rattle.record.specs.Record.{fault_offset, record_at}
use Rattle.record.specs.Record.{first_record, opening_offset}
use Rattle.record.specs.Claims.{Claims}
use Rattle.record.proofs.Laws.{settings_again, settings_missing, too_short, too_long}
use Rattle.record.proofs.Laws.{read_longer, read_shorter, first_longer, first_shorter}
use Rattle.record.proofs.Laws.{read_end}
use Rattle.record.proofs.Offsets.{offset_given, offset_lowest, offset_cut, offset_within}
use Rattle.record.proofs.Offsets.{opening_given, opening_lowest}

pub claims : Claims
unfolding first_of tests_in fails_at all_of number_at total numbers_at
    record_fault fault_offset record_at first_record
    opening_offset offset_in last_longest last_tick
claims = record {
  lengths = refl;
  event_order = refl;
  event_offsets = refl;
  first_order = refl;
  first_offsets = refl;
  too_short = too_short;
  too_long = too_long;
  from_start = refl;
  offset_given = offset_given;
  offset_lowest = offset_lowest;
  offset_cut = offset_cut;
  offset_within = offset_within;
  empty = refl;
  opening_offsets = refl;
  opening_given = opening_given;
  opening_lowest = opening_lowest;
  settings_again = settings_again;
  settings_missing = settings_missing;
  settings_read = refl;
  events_read = refl;
  read_longer = read_longer;
  read_shorter = read_shorter;
  first_longer = first_longer;
  first_shorter = first_shorter;
  read_end = read_end;
}
