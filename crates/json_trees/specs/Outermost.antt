-- What of some data shows that it is a list or an object, or else what it is.
use Rattle.serde_json.specs.Data.{Data, null, boolean, number, string, array, object, no_items, no_members}

-- the data, without what is in a list or an object
abbrev pub outermost : Data → Data
outermost null = null
outermost (boolean b) = boolean b
outermost (number n) = number n
outermost (string s) = string s
outermost (array ds) = array no_items
outermost (object ms) = object no_members
