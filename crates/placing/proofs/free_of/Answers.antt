-- `free_of` asks slot by slot.
use Rattle.std.proofs.Common.{false, rules}
use Rattle.slots.specs.Slots.{empty_slot, is_empty}
use Rattle.placing.proofs.free_of.Goals as goal

pub returns : goal.returns
unfolding is_empty
returns c =
    record {
      slots = search rules;
      many = search rules;
      empty = λ i b. search (rules, (c.map.ensures.items.at i empty_slot false b).2);
    }
