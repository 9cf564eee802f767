-- What the code of a step supposes behind its refusals, in the shape of the code. No claim rests on
-- it. Assumes nothing.
use Rattle.std.specs.Prelude.{◌≡◌, true, ◌<◌, ◌≤◌, ◌^◌}
use Rattle.message.specs.declared.Message.{Message}
use Rattle.message.specs.Message.{last_tick, numbers_of}
use Rattle.message.specs.Faults.{fault_of}
use Rattle.state.specs.declared.Settings.{Settings}
use Rattle.state.specs.declared.Asking.{Asking}
use Rattle.state.specs.StateLimits.{sizes_of}
use Rattle.host.specs.declared.Host.{Host}
use Rattle.host.specs.Steps.{host_ok}

-- a host of a cell: a set has a bit for it, and its clock can be added to
pub record Placed (s : Settings) (h : Host) : Type 0 where
  pub few : s.n < 16
  pub number : h.number < s.n
  pub clock : h.clock ≤ last_tick

-- a round that asks, at such a host
pub record Asks (s : Settings) (h : Host) (a : Asking) : Type 0 where
  pub few : s.n < 16
  pub clock : h.clock ≤ last_tick
  pub tick : a.ballot.tick ≤ last_tick
  pub duration : a.duration ≤ 2 ^ 31

-- a host within its limits, and a message in which writing refuses nothing
pub record Handed (s : Settings) (h : Host) (m : Message) : Type 0 where
  pub host : host_ok s h ≡ true
  pub message : fault_of (sizes_of s) (numbers_of m) ≡ 0
