-- The name of each fault, as users see it.
use Rattle.std.specs.Prelude.{ℕ, List, codes}
use Rattle.dump_text.specs.declared.fault.FaultKind.{FaultKind}
use Rattle.dump_text.specs.declared.fault.FaultKind.TheVariants.{HeaderCut, Header, Kind, Version, Number, Lengths, ContentCut, Order, Props, Md5, Sha1, CopySource, CopyRevision, MergeInfo, MergeSource, MergeRange}

-- the name of a fault
abbrev pub fault_name : FaultKind → List ℕ
fault_name HeaderCut = codes "HeaderCut"
fault_name Header = codes "Header"
fault_name Kind = codes "Kind"
fault_name Version = codes "Version"
fault_name Number = codes "Number"
fault_name Lengths = codes "Lengths"
fault_name ContentCut = codes "ContentCut"
fault_name Order = codes "Order"
fault_name Props = codes "Props"
fault_name Md5 = codes "Md5"
fault_name Sha1 = codes "Sha1"
fault_name CopySource = codes "CopySource"
fault_name CopyRevision = codes "CopyRevision"
fault_name MergeInfo = codes "MergeInfo"
fault_name MergeSource = codes "MergeSource"
fault_name MergeRange = codes "MergeRange"
