-- What the lines of a survey say of each kind of finding.
use Rattle.std.specs.Prelude.{ℕ, Bool, true, false, List, Option, Some, None, codes}
use Rattle.dump_text.specs.declared.fault.FaultKind.{FaultKind}
use Rattle.dump_text.specs.declared.fault.FaultKind.TheVariants as faults
use Rattle.dump_history.specs.declared.findings.Finding.{Finding}
use Rattle.dump_history.specs.declared.findings.Finding.TheVariants as findings
use Rattle.dump_history.specs.declared.findings.DumpFinding.{DumpFinding}
use Rattle.dump_history.specs.declared.findings.DumpFinding.TheVariants as dump_wide

-- the parts of the line that counts the findings of a kind: what was found, the fault with which the filter stops
-- because of it, if it stops, and the advice
pub record KindText : Type 0 where
  pub what : List ℕ
  pub fault : Option FaultKind
  pub advice : List ℕ

-- what the lines say of a kind of finding: the words on the line of one finding, whether that line states the copy
-- source of the node, and the parts of the line that counts such findings
pub record FindingRow : Type 0 where
  pub words : List ℕ
  pub states_source : Bool
  pub kind : KindText

-- findings in a node
unfoldable pub finding_row : Finding → FindingRow
finding_row findings.UnreadBlock = record {
  words = codes "its properties cannot be read";
  states_source = false;
  kind = record {
    what = codes "properties that cannot be read";
    fault = None;
    advice = codes "dump the repository again";
  };
}
finding_row findings.Delta = record {
  words = codes "a delta in a dump of format version 2";
  states_source = false;
  kind = record {
    what = codes "deltas in a dump of format version 2";
    fault = None;
    advice = codes "use svnadmin dump --deltas, which writes version 3";
  };
}
finding_row findings.UnknownAction = record {
  words = codes "no action, or an unknown one";
  states_source = false;
  kind = record {
    what = codes "nodes with no action, or an unknown one";
    fault = None;
    advice = codes "dump the repository again";
  };
}
finding_row findings.TextReadDifferently = record {
  words = codes "a path, a copy source or another text that svnadmin load reads differently";
  states_source = false;
  kind = record {
    what = codes "texts that svnadmin load reads differently";
    fault = None;
    advice = codes "correct them in the dump, since a prefix may not match what is loaded";
  };
}
finding_row findings.NoWholeFile = record {
  words = codes "the source is excluded: svndumpfilter stops here";
  states_source = true;
  kind = record {
    what = codes "copies whose source is excluded";
    fault = Some faults.CopySource;
    advice = codes "include the source too, or exclude the copy";
  };
}
finding_row findings.MissingCopyRevision = record {
  words = codes "the source's revision gets no new number: svndumpfilter stops here";
  states_source = true;
  kind = record {
    what = codes "copies whose source's revision gets no new number";
    fault = Some faults.CopyRevision;
    advice = codes "do not use --renumber-revs, or dump from an earlier revision on";
  };
}
finding_row findings.UnreadMergeinfo = record {
  words = codes "invalid svn:mergeinfo: svndumpfilter stops here";
  states_source = false;
  kind = record {
    what = codes "invalid svn:mergeinfo";
    fault = Some faults.MergeInfo;
    advice = codes "correct the property and dump the repository again, or exclude the path";
  };
}
finding_row findings.MissingMergeSource = record {
  words = codes "svn:mergeinfo of an excluded path: svndumpfilter stops here";
  states_source = false;
  kind = record {
    what = codes "svn:mergeinfo of excluded paths";
    fault = Some faults.MergeSource;
    advice = codes "use --skip-missing-merge-sources, or include these paths too";
  };
}
finding_row findings.MissingMergeRevision = record {
  words = codes "svn:mergeinfo of a revision outside of the dump: svndumpfilter stops here";
  states_source = false;
  kind = record {
    what = codes "svn:mergeinfo of revisions outside of the dump";
    fault = Some faults.MergeRange;
    advice = codes "do not use --renumber-revs, or use --skip-missing-merge-sources if all of them are before the first one";
  };
}
finding_row findings.PropertiesLost = record {
  words = codes "the source is excluded: the copy may lack its properties";
  states_source = true;
  kind = record {
    what = codes "copies that may lack the properties of their excluded source";
    fault = None;
    advice = codes "include the source too";
  };
}
finding_row findings.CopyLoses = record {
  words = codes "the copy may lack paths that are excluded at its source";
  states_source = true;
  kind = record {
    what = codes "copies that may lack paths that are excluded at their source";
    fault = None;
    advice = codes "exclude these paths below the copy too, or not below the source";
  };
}
finding_row findings.CopyLetsIn = record {
  words = codes "the copy may bring back paths that are excluded here";
  states_source = true;
  kind = record {
    what = codes "copies that may bring back paths that are excluded";
    fault = None;
    advice = codes "exclude these paths below the source too";
  };
}
finding_row findings.IncludedStays = record {
  words = codes "this excluded directory is deleted: what is included below it may stay";
  states_source = false;
  kind = record {
    what = codes "excluded directories that are deleted";
    fault = None;
    advice = codes "include the directory, or delete what stays after the load";
  };
}
finding_row findings.IncludedMissing = record {
  words = codes "this copy of a directory is excluded: what is included below it may be missing";
  states_source = true;
  kind = record {
    what = codes "excluded copies of directories";
    fault = None;
    advice = codes "include the copy and its source";
  };
}
finding_row findings.TextComesIn = record {
  words = codes "the source is excluded, and the copy has a text from there";
  states_source = true;
  kind = record {
    what = codes "copies with a text from their excluded source";
    fault = None;
    advice = codes "exclude the copy too if its text has to go";
  };
}

-- findings in a dump as a whole
unfoldable pub dump_row : DumpFinding → FindingRow
dump_row dump_wide.NoRevision = record {
  words = codes "the dump has no revision";
  states_source = false;
  kind = record {
    what = codes "a dump without a revision";
    fault = None;
    advice = codes "there is nothing to load";
  };
}
dump_row dump_wide.OtherNumbers = record {
  words = codes "the revision numbers of the dump do not rise by one";
  states_source = false;
  kind = record {
    what = codes "revision numbers that do not rise by one";
    fault = None;
    advice = codes "first renumber the dump with svndumpfilter include --renumber-revs /";
  };
}
dump_row dump_wide.NumberFalls = record {
  words = codes "the number of a revision is not above the one before it";
  states_source = false;
  kind = record {
    what = codes "revision numbers that do not rise";
    fault = Some faults.Order;
    advice = codes "dump the repository again";
  };
}
dump_row dump_wide.UnreadRevision = record {
  words = codes "the properties of a revision cannot be read";
  states_source = false;
  kind = record {
    what = codes "properties of a revision that cannot be read";
    fault = Some faults.Props;
    advice = codes "dump the repository again";
  };
}
dump_row dump_wide.NodeInFirst = record {
  words = codes "revision 0 of the dump has a node";
  states_source = false;
  kind = record {
    what = codes "a node in revision 0";
    fault = None;
    advice = codes "dump the repository again";
  };
}
dump_row dump_wide.SourceBefore = record {
  words = codes "a node of the dump is copied from a revision before the first one";
  states_source = false;
  kind = record {
    what = codes "copies from a revision before the first one";
    fault = None;
    advice = codes "dump from an earlier revision on";
  };
}
dump_row dump_wide.NodeOutside = record {
  words = codes "a node of the dump is outside of a revision";
  states_source = false;
  kind = record {
    what = codes "nodes outside of a revision";
    fault = Some faults.Order;
    advice = codes "dump the repository again";
  };
}
dump_row dump_wide.NumbersLeft = record {
  words = codes "a revision is dropped, and a later copy or svn:mergeinfo names revisions by their old numbers: use --renumber-revs";
  states_source = false;
  kind = record {
    what = codes "revision numbers with a gap";
    fault = None;
    advice = codes "use --renumber-revs";
  };
}
