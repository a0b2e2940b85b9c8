use Rattle.regex_lite.proofs.Common.{IsMatchOf, AreGroupsOf}
use Rattle.regex_lite.proofs.string.ListReportedLemmas.{of_pattern}
use Rattle.regex_lite.proofs.laws.list_answers_are_answers.Goals as goal

pub returns : goal.returns
returns c = λ list haystack start number. (
  λ m reported. of_pattern (λ tree. IsMatchOf haystack) list haystack start number m reported,
  λ groups reported. of_pattern (λ tree. AreGroupsOf tree haystack) list haystack start number
      groups reported,
)
