pub mod PaxosMadeSimple
