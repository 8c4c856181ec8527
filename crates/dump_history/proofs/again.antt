-- What is written of a dump, read again: its lines, nodes, groups and numbers, and the changes that they make.
pub mod RecordLines
pub mod NodeLines
pub mod NodeChanges
pub mod GroupsAgain
pub mod GroupChanges
pub mod GroupNumbers
pub mod PlainAgain
pub mod GapNumbers
pub mod NamingNodes
pub mod OrderAgain
pub mod DumpAgain
