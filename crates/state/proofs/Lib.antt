-- Laws of settings and of a host's state: limits, the blank state, and that the rules keep limits.
pub mod StateLimits
pub mod Blank
pub mod RulesKeep
