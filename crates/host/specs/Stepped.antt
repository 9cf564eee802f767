-- What a step comes to, as document 01 has it: an answer's number, a host, and what is sent to
-- whom. Assumes nothing.
use Rattle.std.specs.Prelude.{ℕ, Option}
use Rattle.message.specs.declared.Message.{Message}
use Rattle.host.specs.declared.Host.{Host}

-- 0 or the refusal's number, the host, the message that is sent, if any, and the set of its
-- receivers, which is empty where nothing is sent
pub record Stepped : Type 0 where
  pub answer : ℕ
  pub host : Host
  pub sent : Option Message
  pub receivers : ℕ
