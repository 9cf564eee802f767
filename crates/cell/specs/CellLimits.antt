-- A cell's parts, and the limits of a cell value: number 1. Assumes nothing.
use Rattle.message.specs.declared.Message.{Message}
use Rattle.std.specs.Prelude.{ℕ, Bool, [], ◌∷◌, get_or, set, Option}
use Rattle.base.specs.Lists.{all_of}
use Rattle.state.specs.StateLimits.{settings_ok, sizes_of}
use Rattle.host.specs.declared.Host.{Host}
use Rattle.places.specs.Places.{blank_host, places_ok, states_ok, clocks_ok}
use Rattle.slots.specs.Slots.{empty_slot, slots_ok}
use Rattle.cell.specs.declared.Cell.{Cell}

-- the host of a number
abbrev pub host_at : Cell → ℕ → Host
host_at c h = get_or c.hosts h blank_host

-- another host in its place
abbrev pub with_host_at : Cell → ℕ → Host → Cell
with_host_at c h x = record { settings = c.settings; hosts = set c.hosts h x; slots = c.slots }

-- what a slot holds
abbrev pub content_at : Cell → ℕ → Option Message
content_at c i = (get_or c.slots i empty_slot).content

-- 14 where it does not hold: 'at every moment any two clocks differ by at most S'
abbrev pub clocks_near : Cell → Bool
clocks_near c = clocks_ok c.settings c.hosts

-- 1 where it does not hold
unfoldable pub cell_ok : Cell → Bool
cell_ok c =
    all_of (
    settings_ok c.settings
    ∷ places_ok c.settings c.hosts
    ∷ states_ok c.settings c.hosts
    ∷ clocks_near c
    ∷ slots_ok (sizes_of c.settings) c.slots
    ∷ []
    )
