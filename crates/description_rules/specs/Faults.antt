-- The broken rule that the code answers.
use Rattle.spec_rules.specs.Verdict as rules
use Rattle.description_rules.specs.declared.verdict.BrokenRule.{BrokenRule}

abbrev pub fault_view : BrokenRule → rules.BrokenRule
fault_view f = record { number = f.number; item = f.item }
