-- The worked frames of specs/Examples.antt: each is what the definitions compute. Assumes nothing.
use mathlib.Core.Path.{refl}
use Rattle.base.specs.Refusals.{first_of, tests_in, fails_at}
use Rattle.base.specs.Lists.{all_of}
use Rattle.wire.specs.Wire.{le, number_at, total, numbers_at, packed}
use Rattle.quorum.specs.Sets.{members_from}
use Rattle.message.specs.Message.{last_tick, last_end, known_kind, is_response, numbers_of}
use Rattle.message.specs.Message.{message_of}
use Rattle.message.specs.Faults.{party_fits, fault_of, party_fits_to}
use Rattle.layout.specs.Layout.{more_of, kind_length, offset_in, bytes_of, value_in, numbers_in}
use Rattle.frame.specs.Reading.{read_answer, read_offset, read_of}
use Rattle.frame.specs.Writing.{frame_of, write_answer, frames_in, frames_of, answer_to}
use Rattle.frame.specs.Examples.{Examples}

pub examples : Examples
unfolding first_of all_of le number_at total numbers_at packed members_from last_tick last_end
    known_kind is_response numbers_of message_of party_fits fault_of party_fits_to more_of
    kind_length bytes_of value_in numbers_in tests_in fails_at offset_in read_answer read_offset
    read_of frame_of write_answer frames_in frames_of answer_to
examples = record {
  request_written = refl;
  zero_read = refl;
  zero_written = refl;
  zero_accepted = refl;
  no_length = refl;
  hosts_refused = refl;
  party_refused = refl;
  no_receivers = (refl, refl);
  both_written = refl;
  both_frames = refl;
  both_need_room = refl;
  no_such_host = refl;
}
