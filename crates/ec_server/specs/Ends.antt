-- How a run ends, by what its words ask for.
use Rattle.std.specs.Prelude.{◌≡◌, ℕ, List, Option, Some, None}
use Rattle.ec_outside.specs.Files.{Files}
use Rattle.ec_files.specs.declared.status.Status.{Status}
use Rattle.ec_files.specs.declared.status.Status.TheVariants as status
use Rattle.ec_files.specs.Certifying.{HasCertified}
use Rattle.ec_files.specs.CommandEnds.{HasChecked, Wrote}
use Rattle.ec_server.specs.CommandEnds.{HasReplayed, HasServed, SaysSoaked}
use Rattle.ec_files.specs.Words.{Shape, certify, check_theory, replay_lines, serve_theory, soak_lines, usage_line}

module _ {S K : Type 0} (left : S → Option (List ℕ)) (read_faults : S → ℕ) (stands : K → List ℕ → Type 0) (write_faults : K → ℕ) (told : Option Files)
    (before after : ℕ) (input_before input : S) (output_before output : K) where
  -- What the status says, by the shape of the words. Only `serve` takes input; without a shape and with `soak` no file is read.
  abbrev pub Says : Option Shape → Status → Type 0
  Says None ended = (ended ≡ status.NoShape) × Wrote stands write_faults output_before output usage_line × (input ≡ input_before) × (after ≡ before)
  Says (Some (check_theory name)) ended = HasChecked stands write_faults told name before after output_before output ended × (input ≡ input_before)
  Says (Some (serve_theory name)) ended = HasServed left read_faults stands write_faults told name before after input_before input output_before output ended
  Says (Some (replay_lines name lines)) ended = HasReplayed stands write_faults told name lines before after output_before output ended × (input ≡ input_before)
  Says (Some (soak_lines lines seed)) ended = SaysSoaked stands write_faults output_before output lines seed ended × (input ≡ input_before) × (after ≡ before)
  Says (Some (certify claim)) ended = HasCertified stands write_faults told claim before after output_before output ended × (input ≡ input_before)

  -- the run ended so
  pub record Ends (asks : Option Shape) (ended : Status) : Type 0 where
    pub says : Says asks ended
