pub mod RuleKept
