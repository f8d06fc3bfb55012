pub mod UnnestLaws
