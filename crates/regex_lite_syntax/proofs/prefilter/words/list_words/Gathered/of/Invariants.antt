use Rattle.regex_lite_syntax.proofs.Common.{◌≡◌, map}
use Rattle.regex_lite_syntax.specs.Prefilter.NumberedWords.{AreGatheredFrom}
use Rattle.regex_lite_syntax.specs.Prefilter.WordLists.{all_words}
use Rattle.regex_lite_syntax.proofs.prefilter.words.list_words.Gathered.of.Given as goal

-- those of the trees so far
abbrev pub invariant-trees : goal.invariant-trees
invariant-trees g l = record {
  same : l.hirs ≡ l.fn.hirs;
  so_far : AreGatheredFrom (map g.T.AsHir.tree l.fn.hirs) l.number (all_words l.list)
      l.owners.items;
}
