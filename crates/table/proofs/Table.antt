-- The joint table holds, and so do the runs in which a holder is named, the orders of refusals and
-- the counts of slots: each entry is what the definitions compute. Assumes nothing.
use mathlib.Core.Path.{refl}
use lib.Count.{ones, ones_in}
use Rattle.base.specs.Refusals.{first_of, tests_in, fails_at}
use Rattle.base.specs.Lists.{every, all_of}
use Rattle.wire.specs.Wire.{le, number_at, total, numbers_at, packed}
use Rattle.quorum.specs.Sets.{is_majority, members_from}
use Rattle.message.specs.Message.{last_tick, last_end, is_above, known_kind, is_response}
use Rattle.message.specs.Message.{numbers_of, message_of, addressed_to}
use Rattle.message.specs.Faults.{party_fits, fault_of, party_fits_to, fault_to}
use Rattle.layout.specs.Layout.{more_of, kind_length, offset_in, bytes_of, value_in, numbers_in}
use Rattle.frame.specs.Reading.{read_answer, read_offset, read_of}
use Rattle.frame.specs.Writing.{frame_of, write_answer, frames_in, frames_of, answer_to}
use Rattle.frame_c.specs.Interface.{handed_numbers, handed_answer, handed_answer_to}
use Rattle.rules.specs.Rules.{wait_end, accepted_at, named_at, is_fresh, may_promise, has_ended}
use Rattle.rules.specs.Rules.{higher_of, kept_after, acts_on, value_to_propose, is_forbidden}
use Rattle.rules.specs.Rules.{may_accept, after_accept, may_learn, named_by, names_itself}
use Rattle.rules.specs.Rules.{takes_release, freed, after_release}
use Rattle.state.specs.StateLimits.{last_longest, settings_ok, duration_ok, ballot_ok, lease_ok}
use Rattle.state.specs.StateLimits.{accepted_ok, promised_ok, last_ok, named_ok, asking_ok}
use Rattle.state.specs.StateLimits.{proposing_ok, round_ok, state_ok}
use Rattle.state.specs.Ageing.{aged_at}
use Rattle.state.specs.Blank.{no_promise, no_lease, no_tick, no_round, no_holder, is_blank_state}
use Rattle.host.specs.Steps.{last_wait, host_ok, advance_refusal, advanced_host, advance_of}
use Rattle.host.specs.Steps.{restart_refusal, restarted_host, restart_of, start_refusal, on_start}
use Rattle.host.specs.Steps.{release_refusal, on_release, release_of, start_of, response_with}
use Rattle.host.specs.Steps.{on_prepare_request, asking_after, on_majority, on_counted_reply}
use Rattle.host.specs.Steps.{on_reply, on_prepare_response, on_propose_request, proposing_after}
use Rattle.host.specs.Steps.{on_naming, on_chosen, on_counted_vote, on_vote, on_propose_response}
use Rattle.host.specs.Steps.{on_learn, on_release_request, on_message, on_delivery, receive_refusal}
use Rattle.host.specs.Steps.{receive_of}
use Rattle.places.specs.Places.{place_ok, state_at_ok, places_ok, states_ok, clocks_ok, new_host}
use Rattle.places.specs.Places.{each_host, advances_refusal}
use Rattle.slots.specs.Slots.{is_empty, content_ok, slots_ok, empties, lowest, placed, placed_each}
use Rattle.slots.specs.Slots.{looked_for}
use Rattle.cell.specs.CellLimits.{cell_ok}
use Rattle.cell.specs.Events.{messages_in, sent_to, stepped, opening_refusal, opened_with}
use Rattle.cell.specs.Events.{opening_of, advance_all_refusal, advanced_all, advanced_one}
use Rattle.cell.specs.Events.{advance_one_refusal, start_at_refusal, deliver_full, deliver_refusal}
use Rattle.cell.specs.Events.{delivered, lose_refusal, repeat_refusal, repeated, restart_at_refusal}
use Rattle.cell.specs.Events.{release_at_refusal, deliver_looked, refusal_of, after_of, placing_of}
use Rattle.cell.specs.Events.{looked_of, event_of}
use Rattle.cell.specs.Runs.{run, answers}
use Rattle.table.specs.Table.{Table}
use Rattle.table.specs.NotEmpty.{NotEmpty}
use Rattle.table.specs.RefusalOrders.{RefusalOrders}
use Rattle.table.specs.LookedAt.{LookedAt, looked_in}

computed : Table × NotEmpty × RefusalOrders × LookedAt
unfolding frame_of write_answer frames_in frames_of answer_to handed_numbers handed_answer
    handed_answer_to ones ones_in first_of le number_at total numbers_at packed is_majority
    members_from last_tick last_end is_above known_kind is_response numbers_of message_of
    addressed_to party_fits fault_of party_fits_to fault_to more_of kind_length offset_in bytes_of
    value_in numbers_in tests_in fails_at read_answer read_offset read_of wait_end accepted_at
    named_at is_fresh may_promise has_ended higher_of kept_after acts_on value_to_propose
    is_forbidden may_accept after_accept may_learn named_by names_itself takes_release freed
    after_release last_longest settings_ok duration_ok ballot_ok lease_ok accepted_ok
    promised_ok last_ok named_ok asking_ok proposing_ok round_ok state_ok aged_at last_wait host_ok
    advance_refusal advanced_host advance_of restart_refusal restarted_host restart_of start_refusal
    on_start start_of release_refusal on_release release_of response_with on_prepare_request
    asking_after on_majority on_counted_reply on_reply on_prepare_response on_propose_request
    proposing_after on_naming on_chosen on_counted_vote on_vote on_propose_response on_learn
    on_release_request on_message on_delivery receive_refusal receive_of is_empty content_ok
    slots_ok empties lowest placed placed_each no_promise no_lease no_tick no_round no_holder
    is_blank_state place_ok state_at_ok places_ok states_ok clocks_ok cell_ok messages_in sent_to
    stepped opening_refusal new_host opened_with opening_of each_host advances_refusal
    advance_all_refusal advanced_all advanced_one advance_one_refusal start_at_refusal deliver_full
    deliver_refusal delivered lose_refusal repeat_refusal repeated restart_at_refusal
    release_at_refusal refusal_of after_of looked_for deliver_looked placing_of looked_of looked_in
    event_of run answers every all_of
computed = (
  record {
    P1 = refl;
    P2 = refl;
    P3 = refl;
    P4 = refl;
    P5 = (refl, refl);
    P6 = refl;
    P7 = refl;
    P8 = refl;
    P9 = (refl, refl, refl, refl);
    P10 = (refl, refl);
    P11 = refl;
    P12 = refl;
  },
  record {
    answered = refl;
    learned = refl;
    ended = refl;
    passed = refl;
    waits = refl;
    returned = refl;
    released = refl;
    lags = refl;
    spent = refl;
    ahead = refl;
    stays = refl;
  },
  record {
    reading = refl;
    reading_short = refl;
    reading_at = (refl, refl);
    writing = refl;
    writing_to = refl;
    handed = refl;
    handed_to = refl;
    opening = refl;
    advance_all = refl;
    advance_one = refl;
    start = refl;
    deliver = refl;
    lose = refl;
    repeat = refl;
    restart = refl;
    release = refl;
    host_advance = refl;
    host_start = refl;
    host_restart = refl;
    host_release = refl;
    host_message = refl;
  },
  record {
    example_looks = refl;
    last_filled = refl;
    repeated = refl;
    released = refl;
    lone_looks = refl;
    all_looked = refl;
    put_back = refl;
    freed_taken = refl;
    nothing_placed = refl;
    otherwise_refused = refl;
  },
)

pub table : Table
table = computed.0

pub not_empty : NotEmpty
not_empty = computed.1

pub refusal_orders : RefusalOrders
refusal_orders = computed.2

pub looked_at : LookedAt
looked_at = computed.3
