-- What a text is read to is one, and its first bytes tell it.
use Rattle.std.proofs.Common.{◌≡◌, ◌<◌, ⊎_elim, ℕ, List, length, take, refl, sym, ap, subst, ◌∙◌, arith}
use Rattle.std.proofs.lemmas.Bool.Decides.{leb_tells}
use Rattle.std.proofs.lemmas.List.{length-take, take_all}
use Rattle.std.specs.Prelude.{Err, min}
use Rattle.swift_token.specs.declared.limits.TheConstants.{MAX_FILE_BYTES}
use Rattle.swift_parser.specs.declared.faults.ParseFault.{ParseFault}
use Rattle.swift_parser.specs.declared.faults.ParseFault.TheVariants as fault
use Rattle.swift_parser.specs.Whole.{ParsesFile, IsFaultOf, IsOneFault}
use Rattle.swift_parser.proofs.FileLemmas.{too_large}
use Rattle.frontend.specs.declared.parsed.Parsed.{Parsed}
use Rattle.frontend.specs.declared.parsed.Parsed.TheVariants.{Tree, NoTree}
use Rattle.frontend.specs.Parsing.{IsParsed, IsTold, fault_error}

-- a fault that is told is the one of its file
pub one_fault : (path text : List ℕ) (f : ParseFault) → IsTold f → ParsesFile path text (Err f) → IsOneFault path text f
one_fault path text fault.TooLarge told p = p
one_fault path text fault.NotUtf8 told p = p
one_fault path text (fault.Lex f) told p = p
one_fault path text (fault.Unexpected line column token) told p = p
one_fault path text (fault.TooDeep line column) told p = p
one_fault path text fault.NoMemory told p = absurd told

pub told : (path text : List ℕ) (f : ParseFault) → IsTold f → ParsesFile path text (Err f) → IsFaultOf text f
told path text f is p = ((one_fault path text f is p).0 f).0 refl

-- A text at a path is read to one thing.
pub one_parsed : (path text : List ℕ) (f g : Parsed) → IsParsed path text f → IsParsed path text g → f ≡ g
one_parsed path text (Tree t) (Tree u) p q = ap (λ x. Tree x) ((p.0 u).1 ((q.0 u).0 refl))
one_parsed path text (Tree t) (NoTree e) p q = absurd (p.1 q.0 (told path text q.0 q.1 q.2))
one_parsed path text (NoTree e) (Tree u) p q = absurd (q.1 p.0 (told path text p.0 p.1 p.2))
one_parsed path text (NoTree d) (NoTree e) p q =
    let same : p.0 ≡ q.0 = ((one_fault path text p.0 p.1 p.2).0 q.0).1 (told path text q.0 q.1 q.2) in
    ap (λ x. NoTree x) (p.3 ∙ ap (fault_error path) same ∙ sym q.3)

-- a text that is too long is known by its first bytes
long_fault : (path text front : List ℕ) (f : ParseFault) → MAX_FILE_BYTES < length front → MAX_FILE_BYTES < length text → IsTold f → ParsesFile path front (Err f) → ParsesFile path text (Err f)
long_fault path text front f large long is p =
    let same : f ≡ fault.TooLarge = ((one_fault path front f is p).0 fault.TooLarge).1 large in
    subst (λ x. ParsesFile path text (Err x)) (sym same) (too_large path text long)

long_parsed : (path text front : List ℕ) (file : Parsed) → MAX_FILE_BYTES < length front → MAX_FILE_BYTES < length text → IsParsed path front file → IsParsed path text file
long_parsed path text front (Tree tree) large long p = absurd (p.1 fault.TooLarge large)
long_parsed path text front (NoTree e) large long p = (p.0, p.1, long_fault path text front p.0 large long p.1 p.2, p.3)

-- What the first bytes are read to, of which there are more than a file may have, is what the whole text is read to.
pub parsed_whole : (most : ℕ) (path text : List ℕ) (file : Parsed) → MAX_FILE_BYTES < most → IsParsed path (take most text) file → IsParsed path text file
parsed_whole most path text file more p =
    ⊎_elim
    (λ short. subst (λ bytes. IsParsed path bytes file) (take_all most text (omega (arith, short.1))) p)
    (λ long. (let n : length (take most text) ≡ min most (length text) = length-take most text in long_parsed path text (take most text) file (omega (arith, n, long.1)) long.1 p))
    (leb_tells (length text) MAX_FILE_BYTES)
