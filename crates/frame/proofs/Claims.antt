-- The claims of specs/Claims.antt, proved. Assumes nothing.
use Rattle.frame.specs.Claims.{Claims}
use Rattle.frame.proofs.Answers.{too_short, too_long}
use Rattle.frame.proofs.Round.{read_number, read_length, read_offset_lem, rest_unread}
use Rattle.frame.proofs.Round.{write_read}
use Rattle.frame.proofs.Only.{read_write, read_only, cells_alike, frames_apart}
use Rattle.frame.proofs.Sets.{set_in_turn, each_written, set_written, empty_written}
use Rattle.frame.proofs.Sets.{target_unread}
use Rattle.frame.proofs.Offsets.{offset_given, offset_lowest, offset_settings, offset_cut}
use Rattle.frame.proofs.Offsets.{offset_party, offset_within, former}

pub claims : Claims
claims = record {
  number = read_number;
  too_short = too_short;
  too_long = too_long;
  former = former;
  read_length = read_length;
  offset = read_offset_lem;
  offset_given = offset_given;
  offset_lowest = offset_lowest;
  offset_settings = offset_settings;
  offset_cut = offset_cut;
  offset_party = offset_party;
  offset_within = offset_within;
  rest_unread = rest_unread;
  write_read = write_read;
  read_write = read_write;
  read_only = read_only;
  cells_alike = cells_alike;
  frames_apart = frames_apart;
  set_in_turn = set_in_turn;
  each_written = each_written;
  set_written = set_written;
  empty_written = empty_written;
  target_unread = target_unread;
}
