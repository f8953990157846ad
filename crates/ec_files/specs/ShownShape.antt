-- The shape and the claim that borrowed words show, and the shape of the words behind the program's name.
use Rattle.std.specs.Prelude.{List, Option, String, IsTrue, map, option_map, string_bytes}
use Rattle.std.specs.declared.alloc.Global.{Global}
use Rattle.ec_terms.specs.Term.{ground_of, names_are_names}
use Rattle.ec_files.specs.declared.claim.Claim.{Claim}
use Rattle.ec_files.specs.declared.words.Shape.{Shape}
use Rattle.ec_files.specs.declared.words.Shape.TheVariants.{Check, Serve, Replay, Soak, Certify}
use Rattle.ec_files.specs.Claims.{Claim as PlainClaim}
use Rattle.ec_files.specs.Words.{Shape as PlainShape, certify, check_theory, replay_lines, serve_theory, shape_of, soak_lines}

-- a claim, with the bytes of the names
abbrev pub plain_claim : Claim → PlainClaim
plain_claim claim = record {
  theory = claim.theory.now;
  lines = claim.lines.now;
  certificate = option_map (λ name. name.now) claim.certificate;
  prop = ground_of claim.prop;
  at = claim.at.now;
}

-- a shape, with the bytes of the names
abbrev pub plain_shape : Shape → PlainShape
plain_shape (Check name) = check_theory name.now
plain_shape (Serve name) = serve_theory name.now
plain_shape (Replay theory lines) = replay_lines theory.now lines.now
plain_shape (Soak lines seed) = soak_lines lines seed
plain_shape (Certify claim) = certify (plain_claim claim)

-- the names in the property of a claim are names
abbrev pub IsNamed : PlainShape → Type 0
IsNamed (check_theory name) = Unit {0}
IsNamed (serve_theory name) = Unit {0}
IsNamed (replay_lines theory lines) = Unit {0}
IsNamed (soak_lines lines seed) = Unit {0}
IsNamed (certify claim) = IsTrue (names_are_names claim.prop)

-- what the words ask for, or none where they have no shape
abbrev pub asked : List (String Global) → Option PlainShape
asked words = shape_of (map string_bytes words)
