-- Lists of names that shells give a meaning of their own.
use Rattle.std.specs.Prelude.{ℕ, Bool, ◌||◌, ◌==◌, nat_eq, List, [], ◌∷◌, codes}
use Rattle.std.specs.List.{list_any, starts_with}
use Rattle.std.specs.Cmp.Lexicographic.{pointwise}

abbrev pub same_text : List ℕ → List ℕ → Bool
same_text = pointwise ◌==◌

abbrev pub is_among : List (List ℕ) → List ℕ → Bool
is_among names text = list_any (λ name. same_text name text) names

-- the built-ins that a script may use (POSIX 2.14; Bash manual, sections 4.1 and 4.2)
unfoldable pub builtins : List (List ℕ)
builtins =
    codes ":" ∷ codes "true" ∷ codes "false" ∷ codes "echo" ∷ codes "printf" ∷ codes "test" ∷ codes "[" ∷
    codes "read" ∷ codes "mapfile" ∷ codes "readarray" ∷ codes "set" ∷ codes "shift" ∷ codes "break" ∷
    codes "continue" ∷ codes "return" ∷ codes "exit" ∷ codes "exec" ∷ codes "export" ∷ codes "unset" ∷
    codes "local" ∷ codes "declare" ∷ codes "typeset" ∷ codes "readonly" ∷ []

-- the built-ins that no script may use
unfoldable pub refused_builtins : List (List ℕ)
refused_builtins =
    codes "." ∷ codes "alias" ∷ codes "bg" ∷ codes "bind" ∷ codes "builtin" ∷ codes "caller" ∷ codes "cd" ∷
    codes "command" ∷ codes "compgen" ∷ codes "complete" ∷ codes "compopt" ∷ codes "dirs" ∷ codes "disown" ∷
    codes "enable" ∷ codes "eval" ∷ codes "fc" ∷ codes "fg" ∷ codes "getopts" ∷ codes "hash" ∷ codes "help" ∷
    codes "history" ∷ codes "jobs" ∷ codes "kill" ∷ codes "let" ∷ codes "logout" ∷ codes "popd" ∷
    codes "pushd" ∷ codes "pwd" ∷ codes "shopt" ∷ codes "source" ∷ codes "suspend" ∷ codes "times" ∷
    codes "trap" ∷ codes "type" ∷ codes "ulimit" ∷ codes "umask" ∷ codes "unalias" ∷ codes "wait" ∷ []

-- the reserved words of the standard (POSIX 2.4)
unfoldable pub standard_words : List (List ℕ)
standard_words =
    codes "if" ∷ codes "then" ∷ codes "elif" ∷ codes "else" ∷ codes "fi" ∷ codes "for" ∷ codes "in" ∷
    codes "until" ∷ codes "while" ∷ codes "do" ∷ codes "done" ∷ codes "case" ∷ codes "esac" ∷ codes "{" ∷
    codes "}" ∷ codes "!" ∷ []

-- the reserved words that Bash adds (Bash manual, section 3.2.1)
unfoldable pub bash_words : List (List ℕ)
bash_words =
    codes "time" ∷ codes "select" ∷ codes "function" ∷ codes "coproc" ∷ codes "[[" ∷ codes "]]" ∷ []

-- names that other shells build in
unfoldable pub other_commands : List (List ℕ)
other_commands =
    codes "alloc" ∷ codes "autoload" ∷ codes "bindkey" ∷ codes "bye" ∷ codes "chdir" ∷
    codes "command_not_found_handle" ∷ codes "disable" ∷ codes "hist" ∷ codes "print" ∷ codes "repeat" ∷
    codes "stop" ∷ codes "whence" ∷ []

-- variables that shells set or read by themselves (POSIX 2.5.3; Bash manual, section 5)
unfoldable pub special_names : List (List ℕ)
special_names =
    codes "_" ∷ codes "IFS" ∷ codes "RANDOM" ∷ codes "SRANDOM" ∷ codes "SECONDS" ∷ codes "LINENO" ∷
    codes "PIPESTATUS" ∷ codes "FUNCNAME" ∷ codes "FUNCNEST" ∷ codes "GROUPS" ∷ codes "DIRSTACK" ∷
    codes "EPOCHSECONDS" ∷ codes "EPOCHREALTIME" ∷ codes "OPTIND" ∷ codes "OPTARG" ∷ codes "OPTERR" ∷
    codes "PPID" ∷ codes "UID" ∷ codes "EUID" ∷ codes "SHELLOPTS" ∷ codes "PWD" ∷ codes "OLDPWD" ∷
    codes "SHLVL" ∷ codes "HOSTNAME" ∷ codes "HOSTTYPE" ∷ codes "MACHTYPE" ∷ codes "OSTYPE" ∷ codes "ENV" ∷
    codes "LANG" ∷ codes "TIMEFORMAT" ∷ codes "POSIXLY_CORRECT" ∷ codes "GLOBIGNORE" ∷ codes "EXECIGNORE" ∷
    codes "TMOUT" ∷ codes "COPROC" ∷ codes "CHILD_MAX" ∷ codes "COLUMNS" ∷ codes "LINES" ∷ codes "PS1" ∷
    codes "PS2" ∷ codes "PS3" ∷ codes "PS4" ∷ []

-- and each variable that begins with one of these
unfoldable pub special_prefixes : List (List ℕ)
special_prefixes =
    codes "BASH" ∷ codes "COMP_" ∷ codes "LC_" ∷ codes "HIST" ∷ []

abbrev pub is_builtin : List ℕ → Bool
is_builtin text = is_among builtins text

abbrev pub is_refused_builtin : List ℕ → Bool
is_refused_builtin text = is_among refused_builtins text

abbrev pub is_standard_word : List ℕ → Bool
is_standard_word text = is_among standard_words text

abbrev pub is_bash_word : List ℕ → Bool
is_bash_word text = is_among bash_words text

-- a reserved word, or what another shell builds in
abbrev pub is_restricted : List ℕ → Bool
is_restricted text = is_standard_word text || is_bash_word text || is_among other_commands text

-- a command that a shell answers by itself, or a word of its grammar
abbrev pub is_known_command : List ℕ → Bool
is_known_command text = is_builtin text || is_refused_builtin text || is_restricted text

abbrev pub is_special_name : List ℕ → Bool
is_special_name name = is_among special_names name || list_any (λ prefix. starts_with nat_eq name prefix) special_prefixes
