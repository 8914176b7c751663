-- The shapes that written values are built of.
use Rattle.std.specs.Prelude.{ℕ, List}
use Rattle.serde_json.specs.Data.{Data, array, object, no_items, item, no_members, member}

-- an object of one member
abbrev pub single_member : List ℕ → Data → Data
single_member name d = object (member name d no_members)

-- lists of two and of three
abbrev pub pair : Data → Data → Data
pair x y = array (item x (item y no_items))

abbrev pub triple : Data → Data → Data → Data
triple x y z = array (item x (item y (item z no_items)))
