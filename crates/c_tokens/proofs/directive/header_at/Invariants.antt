use Rattle.std.proofs.Common.{◌≡◌, drop, nat_eq}
use Rattle.std.specs.Prelude.{map, find}
use Rattle.std.specs.List.{starts_with}
use Rattle.c_tokens.specs.Directive.{header_at}
use Rattle.c_tokens.proofs.directive.header_at.Given as goal

abbrev pub invariant-headers : goal.invariant-headers
invariant-headers l = header_at l.bytes ≡ find (λ header. starts_with nat_eq l.bytes header) (map (λ h. h.now) (drop l.header-index l.header-items))
