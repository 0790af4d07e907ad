-- What callers see of the marks and of a ring.
use Rattle.ring.specs.declared.marks.Marks.TheInside as marks
use Rattle.ring.specs.declared.rings.Ring.TheInside as ring
use Rattle.ring.specs.Marks.{Numbers}
use Rattle.ring.specs.Rings.{State}

abbrev pub numbers : marks.Inside → Numbers
numbers m = record {
  size = m.size;
  producer = m.producer.mark;
  consumer = m.consumer.mark;
  reserved = m.producer.claimed;
  peeked = m.consumer.claimed;
}

abbrev pub state : {E : Type 0} → ring.Inside E → State E
state r = record { marks = r.marks; slots = r.slots.now }
