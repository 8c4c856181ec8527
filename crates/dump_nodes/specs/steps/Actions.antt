-- What a node does at its path, as the program reads it.
use Rattle.std.specs.Prelude.{◌≡◌, ℕ, Bool, true, false, List, bytes_eq, codes, if◌then◌else◌}
use Rattle.dump_records.specs.RecordText.{DumpRecord}
use Rattle.dump_history.specs.RecordChanges.{deletes, has_known_action, makes}
use Rattle.dump_nodes.specs.declared.action.Action.{Action}
use Rattle.dump_nodes.specs.declared.action.Action.TheVariants.{Add, Change, Delete, Replace, Unknown}

-- the action of this name
abbrev pub action_named : List ℕ → Action
action_named name =
    if bytes_eq name (codes "add") then Add
    else if bytes_eq name (codes "change") then Change
    else if bytes_eq name (codes "delete") then Delete
    else if bytes_eq name (codes "replace") then Replace
    else Unknown

-- whether it is one of the four actions of the format
abbrev pub is_known_action : Action → Bool
is_known_action Unknown = false
is_known_action _ = true

-- whether it deletes what is at the path
abbrev pub is_deleting : Action → Bool
is_deleting Delete = true
is_deleting Replace = true
is_deleting _ = false

-- whether it makes something at the path
abbrev pub is_making : Action → Bool
is_making Add = true
is_making Replace = true
is_making _ = false

-- this is the node's action
pub record IsActionOf (r : DumpRecord) (a : Action) : Type 0 where
  pub known : is_known_action a ≡ has_known_action r
  pub deletes : is_deleting a ≡ deletes r
  pub makes : is_making a ≡ makes r
