-- A world with other lists: what is good of its objects stays.
use Rattle.ui_machine.specs.Definition.{Definition}
use Rattle.ui_machine.specs.State.Config.{World}
use Rattle.law_typing.specs.Good.Objects.{ObjectsGood}

-- objects are as good in each world that has them, with the same peers
pub objects_stay : (d : Definition) (w v : World) → ObjectsGood d w → ObjectsGood d (record v { objects = w.objects; peers = w.peers })
objects_stay d w v g id o e = let o = g id o e in record {
  place = o.place;
  is = o.is;
  class = o.class;
  values = o.values;
  children = o.children;
  parent = o.parent;
  queue = o.queue;
  apart = o.apart;
  peer = o.peer;
}
